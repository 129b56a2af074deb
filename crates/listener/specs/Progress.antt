-- How far a conversation has got, between its calls.
use Rattle.std.specs.Prelude.{◌≡◌, ◌≢◌, ℕ, List, [], ◌∷◌, ◌++◌, ◌⊎◌, Result, Ok, Err}
use Rattle.std.specs.List.{flat_map}
use Rattle.std.specs.Io.KnownBytes.{Appends, Consumes}
use Rattle.resp2.specs.Stream.{stream_spelling}
use Rattle.connections.specs.declared.conn.Conn.{Conn}
use Rattle.node_step.specs.declared.event.Event.TheVariants.{Open, Close}
use Rattle.step_fault.specs.declared.fault.StepFault.{StepFault}
use Rattle.node_step.specs.declared.outputs.Outputs.{Outputs}
use Rattle.node_step.specs.declared.response.Response.TheVariants.{Opened}
use Rattle.node_gate.specs.Asks.{Asked}
use Rattle.node_gate.specs.Asks.Asked.{asking}
use Rattle.listener.specs.declared.fault.ConnFault.{ConnFault}
use Rattle.listener.specs.declared.fault.ConnFault.TheVariants.{Reader, Writer, Endless}
use Rattle.listener.specs.declared.requests.Rest.{Rest}
use Rattle.listener.specs.Streams.{Adds, Change, FailsLast, Stream, change}
use Rattle.listener.specs.Conversation.{Converses, EndsBy, EndsUnopened, Exchange, IsUnopened, ReadsTo, Tail, asked_for, AreAnswered, replies_bytes}

-- what waited went out or still waits, and so do these bytes behind it
pub record Puts (out : Change Stream) (waiting : Change (List ℕ)) (bytes : List ℕ) : Type 0 where
  pub sent : List ℕ
  pub appends : Appends out.old.bytes out.new.bytes sent
  pub all : sent ++ waiting.new ≡ waiting.old ++ bytes

-- between two requests: what was asked of the node, the bytes that are not answered, the replies that wait, and the writer
pub record Desk : Type 0 where
  pub asked : List Asked
  pub pending : List ℕ
  pub waiting : List ℕ
  pub out : Stream

abbrev pub desk : List Asked → List ℕ → List ℕ → Stream → Desk
desk asked pending waiting out = record { asked = asked; pending = pending; waiting = waiting; out = out }

-- whole requests were answered, and no more was asked
pub record Answers (allowed : Asked → Type 0) (conn : Conn) (old new : Desk) : Type 0 where
  pub exchanges : List Exchange
  pub history : Adds allowed (change old.asked new.asked) (flat_map (asked_for conn) exchanges)
  pub requests : List (List (List ℕ))
  pub answered : AreAnswered requests exchanges
  pub spelled : old.pending ≡ stream_spelling requests ++ new.pending
  pub puts : Puts (change old.out new.out) (change old.waiting new.waiting) (replies_bytes exchanges)
  pub same : new.out.failures ≡ old.out.failures

-- a call of the writer failed, and was the last one, where that ended the conversation; and else none failed
pub record WriterCount (ended : Result Rest ConnFault) (old new : Stream) : Type 0 where
  pub failed : ended ≡ Err Writer → FailsLast old new
  pub same : ended ≢ Err Writer → new.failures ≡ old.failures

-- whole requests were answered, and then this ended the conversation. Where the writer failed, it may have taken any part of what waits
pub record Halts (allowed : Asked → Type 0) (conn : Conn) (ended : Result Rest ConnFault) (old new : Desk) : Type 0 where
  pub exchanges : List Exchange
  pub tail : Tail
  pub left : List ℕ
  pub history : Adds allowed (change old.asked new.asked) (flat_map (asked_for conn) exchanges ++ tail.asked)
  pub requests : List (List (List ℕ))
  pub answered : AreAnswered requests exchanges
  pub spelled : old.pending ≡ stream_spelling requests ++ tail.rest
  pub puts : Puts (change old.out new.out) (change old.waiting left) (replies_bytes exchanges)
  pub waits : ended ≢ Err Writer → left ≡ new.waiting
  pub count : WriterCount ended old.out new.out
  pub ends : EndsBy conn ended tail

-- a fault that comes while requests are answered, and not of reading
abbrev pub IsOfAnswering : ConnFault → Type 0
IsOfAnswering Reader = ⊥
IsOfAnswering Endless = ⊥
IsOfAnswering fault = Unit {0}

-- the same of all that came on a connection: `old.pending` stands for the bytes that are read
pub record Stops (allowed : Asked → Type 0) (conn : Conn) (ended : Result Rest ConnFault) (input : Change Stream) (old new : Desk) : Type 0 where
  pub came : List ℕ
  pub read : Consumes input.old.bytes input.new.bytes came
  pub halts : Halts allowed conn ended (record old { pending = came }) new
  pub reads : ReadsTo ended input came

-- the node opened a connection
pub record Opens (allowed : Asked → Type 0) (asked : Change (List Asked)) (conn : Conn) : Type 0 where
  pub opening : Outputs
  pub opened : opening.response ≡ Opened conn
  pub history : Adds allowed asked (asking Open (Ok opening) ∷ [])

-- it didn't
pub record Refuses (allowed : Asked → Type 0) (asked : Change (List Asked)) (fault : ConnFault) : Type 0 where
  pub asks : List Asked
  pub history : Adds allowed asked asks
  pub why : IsUnopened asks fault

-- the node was told that the client is gone
pub record Closes (allowed : Asked → Type 0) (asked : Change (List Asked)) (conn : Conn) : Type 0 where
  pub closing : Result Outputs StepFault
  pub history : Adds allowed asked (asking (Close conn) closing ∷ [])

-- the conversation is over for the node, and the client is to be told
pub record Talks (allowed : Asked → Type 0) (asked : Change (List Asked)) (input output : Change Stream)
    (ended : Result Rest ConnFault) (waiting : List ℕ) : Type 0 where
  pub replies : List ℕ
  pub talked : Converses allowed asked input ended replies ⊎ EndsUnopened allowed asked input ended replies
  pub left : List ℕ
  pub puts : Puts output (change [] left) replies
  pub waits : ended ≢ Err Writer → left ≡ waiting
  pub count : WriterCount ended output.old output.new
