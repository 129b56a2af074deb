-- What a conversation with a client is: what the node is asked for the bytes that come, and which bytes go out.
use Rattle.std.specs.Prelude.{◌≡◌, ◌≢◌, ◌≤◌, ◌-◌, ◌^◌, ℕ, List, [], ◌∷◌, ◌++◌, ◌⊎◌, length, map, Option, Some, None, Result, Ok, Err}
use Rattle.std.specs.List.{flat_map}
use Rattle.std.specs.Io.KnownBytes.{Consumes, IsAtEnd}
use Rattle.resp2.specs.Counting.{HasRisen}
use Rattle.resp_values.specs.Reply.{reply_spelling}
use Rattle.resp_values.specs.Request.{IsRequest, request_spelling}
use Rattle.resp2.specs.Stream.{stream_spelling, with_words, IsUnfinished, HasFirstBadByte, HasNoRequest}
use Rattle.resp_header.specs.declared.fault.Fault.{Fault}
use Rattle.resp_values.specs.declared.reply.Reply.{Reply}
use Rattle.resp_values.specs.declared.reply.Reply.TheVariants.{Error}
use Rattle.command_table.specs.ErrorLine.{error_text}
use Rattle.command_table.specs.declared.error_line.ErrorLine.{ErrorLine}
use Rattle.command_table.specs.declared.error_line.ErrorLine.TheVariants as line
use Rattle.connections.specs.declared.conn.Conn.{Conn}
use Rattle.node_step.specs.declared.event.Event.TheVariants.{Open, Close, Request}
use Rattle.step_fault.specs.declared.fault.StepFault.{StepFault}
use Rattle.step_fault.specs.declared.fault.StepFault.TheVariants as refused
use Rattle.node_step.specs.declared.outputs.Outputs.{Outputs}
use Rattle.node_step.specs.declared.response.Answer.{Answer}
use Rattle.node_step.specs.declared.response.Response.{Response}
use Rattle.node_step.specs.declared.response.Response.TheVariants.{Opened, Parked, Replied}
use Rattle.node_gate.specs.Asks.{Asked}
use Rattle.node_gate.specs.Asks.Asked.{asking, waiting}
use Rattle.listener.specs.declared.fault.ConnFault.{ConnFault}
use Rattle.listener.specs.declared.fault.ConnFault.TheVariants.{Reader, Writer, Memory, Exhausted, Unanswered, Endless}
use Rattle.listener.specs.declared.requests.Rest.{Rest}
use Rattle.listener.specs.declared.requests.Rest.TheVariants.{Unfinished, BadByte}
use Rattle.listener.specs.Streams.{Adds, Change, Fails, Sends, Stream}

-- a reply comes with the step for its request, or its connection waits for it
abbrev pub ComesBy : Response → Reply → Type 0
ComesBy (Replied answer) reply = answer.reply ≡ reply
ComesBy Parked reply = Unit {0}
ComesBy _ reply = ⊥

-- a request that was read, the step that the node made for it, and the reply
pub record Exchange : Type 0 where
  pub words : List (List ℕ)
  pub outputs : Outputs
  pub reply : Reply
  pub is_request : IsRequest words
  pub replied : ComesBy outputs.response reply

-- what is waited for behind a step, and comes: the reply, where the step gave none yet
abbrev pub awaited : Conn → Response → Option Reply → List Asked
awaited conn Parked reply = waiting conn reply ∷ []
awaited conn _ reply = []

-- what the node is asked for a request that is answered
abbrev pub asked_for : Conn → Exchange → List Asked
asked_for conn exchange = asking (Request conn exchange.words) (Ok exchange.outputs) ∷ awaited conn exchange.outputs.response (Some exchange.reply)

-- those of the requests that have words are answered, in order; one without words is passed over
abbrev pub AreAnswered : List (List (List ℕ)) → List Exchange → Type 0
AreAnswered requests exchanges = with_words requests ≡ map (λ exchange. exchange.words) exchanges

abbrev pub replies_bytes : List Exchange → List ℕ
replies_bytes exchanges = flat_map (λ exchange. reply_spelling exchange.reply) exchanges

-- what comes behind those requests: what the node was still asked, and the bytes that were still read
pub record Tail : Type 0 where
  pub asked : List Asked
  pub rest : List ℕ

-- a conversation on a connection of the node
pub record Conversation : Type 0 where
  pub conn : Conn
  pub opening : Outputs
  pub requests : List (List (List ℕ))
  pub exchanges : List Exchange
  pub tail : Tail
  pub closing : Result Outputs StepFault

-- all that it asks of the node: one Open, a Request for each that was answered, with a wait where it was parked, the tail, one Close
abbrev pub history_of : Conversation → List Asked
history_of talk =
    asking Open (Ok talk.opening) ∷ ((flat_map (asked_for talk.conn) talk.exchanges ++ talk.tail.asked) ++ asking (Close talk.conn) talk.closing ∷ [])

-- all that it reads
abbrev pub input_of : Conversation → List ℕ
input_of talk = stream_spelling talk.requests ++ talk.tail.rest

-- the last request in front of the rest was asked, this came of it, and this was waited for
pub record AsksLast (conn : Conn) (outcome : Result Outputs StepFault) (waits : List Asked) (tail : Tail) : Type 0 where
  pub words : List (List ℕ)
  pub behind : List ℕ
  pub is_request : IsRequest words
  pub asked : tail.asked ≡ asking (Request conn words) outcome ∷ waits
  pub in_front : tail.rest ≡ request_spelling words ++ behind

abbrev pub HasNoReply : Response → Type 0
HasNoReply response = (answer : Answer) → response ≢ Replied answer

-- the node made a step for the last request, and gave no reply, not even where one was waited for
pub record IsSilent (conn : Conn) (tail : Tail) : Type 0 where
  pub outputs : Outputs
  pub asks : AsksLast conn (Ok outputs) (awaited conn outputs.response None) tail
  pub no_reply : HasNoReply outputs.response

-- a bad byte is in the rest, and no whole request in front of it
pub record IsSpoilt (rest : List ℕ) : Type 0 where
  pub fault : Fault
  pub bad : HasFirstBadByte fault rest
  pub handed_out : HasNoRequest rest

-- the rest where no whole request is in front
abbrev pub IsRest : Rest → List ℕ → Type 0
IsRest Unfinished rest = IsUnfinished rest
IsRest BadByte rest = IsSpoilt rest

-- what is in the tail, by what ended the conversation: its input, or a fault
abbrev pub EndsBy : Conn → Result Rest ConnFault → Tail → Type 0
EndsBy conn (Ok rest) tail = (tail.asked ≡ []) × IsRest rest tail.rest
EndsBy conn (Err Reader) tail = (tail.asked ≡ []) × IsUnfinished tail.rest
EndsBy conn (Err Writer) tail = tail.asked ≡ []
EndsBy conn (Err Memory) tail = (tail.asked ≡ []) ⊎ AsksLast conn (Err refused.Memory) [] tail
EndsBy conn (Err Exhausted) tail = AsksLast conn (Err refused.Exhausted) [] tail
EndsBy conn (Err Unanswered) tail = IsSilent conn tail
EndsBy conn (Err Endless) tail = (tail.asked ≡ []) × IsUnfinished tail.rest

-- the bytes of an error
abbrev pub error_bytes : ErrorLine → List ℕ
error_bytes error = reply_spelling (Error (error_text error))

-- what a client reads last, by what ended the conversation
abbrev pub line_of : Result Rest ConnFault → List ℕ
line_of (Ok Unfinished) = []
line_of (Ok BadByte) = error_bytes line.Protocol
line_of (Err Reader) = []
line_of (Err Writer) = []
line_of (Err Memory) = error_bytes line.OutOfMemory
line_of (Err Exhausted) = error_bytes line.Exhausted
line_of (Err Unanswered) = []
line_of (Err Endless) = []

-- how the reader is left, by what ended the conversation; so much was read
abbrev pub ReadsTo : Result Rest ConnFault → Change Stream → List ℕ → Type 0
ReadsTo (Ok Unfinished) input bytes = IsAtEnd input.new.bytes × (input.new.failures ≡ input.old.failures)
ReadsTo (Err Reader) input bytes = HasRisen input.old.failures input.new.failures
ReadsTo (Err Endless) input bytes = (2 ^ 64 - 1 ≤ length bytes) × (input.new.failures ≡ input.old.failures)
ReadsTo _ input bytes = input.new.failures ≡ input.old.failures

-- a conversation on a connection that the node opened: what was asked, what was read, and which replies there are
pub record Converses (allowed : Asked → Type 0) (asked : Change (List Asked)) (input : Change Stream)
    (ended : Result Rest ConnFault) (replies : List ℕ) : Type 0 where
  pub talk : Conversation
  pub opened : talk.opening.response ≡ Opened talk.conn
  pub history : Adds allowed asked (history_of talk)
  pub read : Consumes input.old.bytes input.new.bytes (input_of talk)
  pub answered : AreAnswered talk.requests talk.exchanges
  pub replied : replies ≡ replies_bytes talk.exchanges
  pub ends : EndsBy talk.conn ended talk.tail
  pub reads : ReadsTo ended input (input_of talk)

abbrev pub HasNoConnection : Response → Type 0
HasNoConnection response = (conn : Conn) → response ≢ Opened conn

-- what a refused step ends a conversation with
abbrev pub fault_of : StepFault → ConnFault
fault_of refused.Memory = Memory
fault_of refused.Exhausted = Exhausted

-- why there was no connection: memory was refused before, the node refused the Open, or it gave none
pub data IsUnopened (asks : List Asked) (fault : ConnFault) : Type 0 where
  no_room : asks ≡ [] → fault ≡ Memory → IsUnopened asks fault
  was_refused : (why : StepFault) → asks ≡ asking Open (Err why) ∷ [] → fault ≡ fault_of why → IsUnopened asks fault
  gave_none : (outputs : Outputs) → asks ≡ asking Open (Ok outputs) ∷ [] → HasNoConnection outputs.response → fault ≡ Unanswered → IsUnopened asks fault

-- there was no connection, and nothing was read
pub record EndsUnopened (allowed : Asked → Type 0) (asked : Change (List Asked)) (input : Change Stream)
    (ended : Result Rest ConnFault) (replies : List ℕ) : Type 0 where
  pub fault : ConnFault
  pub asks : List Asked
  pub history : Adds allowed asked asks
  pub unread : input.new ≡ input.old
  pub no_replies : replies ≡ []
  pub failed : ended ≡ Err fault
  pub why : IsUnopened asks fault

-- what the caller is told
abbrev pub result_of : Result Rest ConnFault → Result (Unit {0}) ConnFault
result_of (Ok rest) = Ok tt
result_of (Err fault) = Err fault

-- all bytes were written, and the caller learns what ended the conversation; or the writer failed, and a beginning of them was written
abbrev pub Tells : Result (Unit {0}) ConnFault → Result Rest ConnFault → Change Stream → List ℕ → Type 0
Tells (Err Writer) ended output bytes = Fails output bytes
Tells result ended output bytes = (result ≡ result_of ended) × Sends output bytes

-- a client was served: `ended` is what ended the conversation, and `replies` the bytes of all replies
pub record Serves (allowed : Asked → Type 0) (asked : Change (List Asked)) (input output : Change Stream)
    (result : Result (Unit {0}) ConnFault) : Type 0 where
  pub ended : Result Rest ConnFault
  pub replies : List ℕ
  pub talked : Converses allowed asked input ended replies ⊎ EndsUnopened allowed asked input ended replies
  pub told : Tells result ended output (replies ++ line_of ended)
