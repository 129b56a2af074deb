-- A conversation that is held in turns, whoever picks their order (this project's own).
use Rattle.std.specs.Prelude.{◌≡◌, ◌≢◌, ℕ, List, [], ◌∷◌, ◌++◌, None, Some, Result, Err, ⊤}
use Rattle.connections.specs.declared.conn.Conn.{Conn}
use Rattle.node_gate.specs.Asks.{Asked}
use Rattle.node_gate.specs.Asks.Asked.{waiting}
use Rattle.listener.specs.Conversation.{EndsBy, line_of}
use Rattle.listener.specs.Progress.{Answers, Closes, Desk, Halts, Puts, desk}
use Rattle.listener.specs.Streams.{Adds, Stream, change}
use Rattle.listener.specs.Turns.{Hears, Parks, Turns}
use Rattle.listener.specs.declared.fault.ConnFault.{ConnFault}
use Rattle.listener.specs.declared.fault.ConnFault.TheVariants.{Unanswered, Writer}
use Rattle.listener.specs.declared.requests.Next.{Next}
use Rattle.listener.specs.declared.requests.Next.TheVariants as next
use Rattle.listener.specs.declared.requests.Rest.{Rest}

-- how far a conversation has come: requests are answered, the reply to the last one is awaited, it has ended in this way, or the node has
-- closed the connection as well
pub data Stage : Type 0 where
  Answering : Stage
  Awaiting : Stage
  Over : Result Rest ConnFault → Stage
  Parting : Result Rest ConnFault → Stage

-- a conversation between two turns: what was asked of the node, the bytes that were read of the client, those of them that are not answered,
-- the bytes that were sent to it, and those that still wait to be sent
pub record Course : Type 0 where
  pub stage : Stage
  pub asked : List Asked
  pub read : List ℕ
  pub pending : List ℕ
  pub sent : List ℕ
  pub waits : List ℕ

-- a writer that holds these bytes, and has not failed
abbrev pub holding : List ℕ → Stream
holding bytes = record { bytes = Some bytes; failures = 0; at_failure = None }

-- the same as the clauses of a turn see it
abbrev pub desk_in : Course → Desk
desk_in course = desk course.asked course.pending course.waits (holding course.sent)

-- as it is once the node has opened the connection: nothing was read, and nothing was sent
abbrev pub opened : List Asked → Course
opened asked = record { stage = Answering; asked = asked; read = []; pending = []; sent = []; waits = [] }

abbrev pub IsReading : Stage → Type 0
IsReading Answering = ⊤
IsReading Awaiting = ⊤
IsReading (Over ended) = ⊥
IsReading (Parting ended) = ⊥

abbrev pub stage_behind : Next → Stage
stage_behind next.Hear = Awaiting
stage_behind _ = Answering

-- one turn: a call of a `Talk` or a `Farewell`, in the words of its clauses
pub data Turn (allowed : Asked → Type 0) (conn : Conn) (old new : Course) : Type 0 where
  -- bytes came
  reads : (bytes : List ℕ) → IsReading old.stage → new ≡ record old { read = old.read ++ bytes; pending = old.pending ++ bytes } → Turn allowed conn old new
  -- whole requests were answered, and the last of them perhaps parked
  answers : (next : Next) (asked : List Asked) (pending waits : List ℕ) → old.stage ≡ Answering
      → Turns allowed conn next (desk_in old) (desk asked pending waits (holding old.sent))
      → new ≡ record old { stage = stage_behind next; asked = asked; pending = pending; waits = waits } → Turn allowed conn old new
  -- so they were up to one by which the conversation ended
  fails : (fault : ConnFault) (asked : List Asked) (pending waits : List ℕ) → old.stage ≡ Answering
      → Halts allowed conn (Err fault) (desk_in old) (desk asked pending waits (holding old.sent))
      → new ≡ record old { stage = Over (Err fault); asked = asked; pending = pending; waits = waits } → Turn allowed conn old new
  -- the reply that was awaited came, or never comes
  hears : (asked : List Asked) (waits : List ℕ) → old.stage ≡ Awaiting → Hears allowed conn (change old.asked asked) (change old.waits waits)
      → new ≡ record old { stage = Answering; asked = asked; waits = waits } → Turn allowed conn old new
  hears_nothing : (asked : List Asked) → old.stage ≡ Awaiting → Adds allowed (change old.asked asked) (waiting conn None ∷ [])
      → new ≡ record old { stage = Over (Err Unanswered); asked = asked } → Turn allowed conn old new
  -- the client ended it, or what came last did
  ends : (ended : Result Rest ConnFault) → old.stage ≡ Answering → ended ≢ Err Writer → EndsBy conn ended (record { asked = []; rest = old.pending })
      → new ≡ record old { stage = Over ended } → Turn allowed conn old new
  -- some of what waits was sent
  writes : (sent waits : List ℕ) → Puts (change (holding old.sent) (holding sent)) (change old.waits waits) [] → new ≡ record old { sent = sent; waits = waits }
      → Turn allowed conn old new
  -- the node closed the connection, and the line that tells why stands behind what waits
  closes : (ended : Result Rest ConnFault) (asked : List Asked) → old.stage ≡ Over ended → Closes allowed (change old.asked asked) conn
      → new ≡ record old { stage = Parting ended; asked = asked; waits = old.waits ++ line_of ended } → Turn allowed conn old new

-- one turn behind another
abbrev pub AreTurns : (Asked → Type 0) → Conn → Course → List Course → Course → Type 0
AreTurns allowed conn old [] new = new ≡ old
AreTurns allowed conn old (next ∷ courses) new = Turn allowed conn old next × AreTurns allowed conn next courses new

-- the conversation ended, then the node closed the connection, and since then what waited and the line were sent as far as they were
pub record Parts (allowed : Asked → Type 0) (conn : Conn) (ended : Result Rest ConnFault) (start : Desk) (course : Course) : Type 0 where
  pub before : Desk
  pub halts : Halts allowed conn ended start before
  pub closes : Closes allowed (change before.asked course.asked) conn
  pub puts : Puts (change before.out (holding course.sent)) (change (before.waiting ++ line_of ended) course.waits) []

-- all of what was read on the connection and asked for it, and all of what was sent, is that of one conversation
abbrev pub IsHeld : Stage → (Asked → Type 0) → Conn → List Asked → Course → Type 0
IsHeld Answering allowed conn asked course = Answers allowed conn (desk asked course.read [] (holding [])) (desk_in course)
IsHeld Awaiting allowed conn asked course = Parks allowed conn (desk asked course.read [] (holding [])) (desk_in course)
IsHeld (Over ended) allowed conn asked course = Halts allowed conn ended (desk asked course.read [] (holding [])) (desk_in course)
IsHeld (Parting ended) allowed conn asked course = Parts allowed conn ended (desk asked course.read [] (holding [])) course

-- whichever turns are taken, in whatever order: for each whole request that was read the node was asked once, in order, and for nothing else;
-- and what was sent to the client, and then what waits, are the replies to just these, and the line of what ended the conversation
abbrev pub TurnsMakeAConversation : (Asked → Type 0) → Type 0
TurnsMakeAConversation allowed = (conn : Conn) (asked : List Asked) (courses : List Course) (course : Course)
    → AreTurns allowed conn (opened asked) courses course → IsHeld course.stage allowed conn asked course
