-- A conversation between two turns: what was answered, what is left of the input, and what the client is still to be sent.
use Rattle.std.specs.Prelude.{◌≡◌, ◌≢◌, ◌⊎◌, ◌<◌, ◌≤◌, ℕ, Bool, MatchBool, List, [], ◌∷◌, ◌++◌, drop, take, length, Option, None, Some, Result, Ok}
use Rattle.std.specs.Io.KnownBytes.{Consumes, IsAtEnd, Keeps}
use Rattle.resp2.specs.Counting.{HasRisen}
use Rattle.resp_values.specs.Reply.{reply_spelling}
use Rattle.resp_values.specs.Request.{IsRequest, request_spelling}
use Rattle.resp2.specs.Reader.{ReaderState}
use Rattle.resp2.specs.Stream.{IsUnfinished}
use Rattle.command_table.specs.declared.error_line.ErrorLine.{ErrorLine}
use Rattle.node_step.specs.declared.event.Event.TheVariants.{Request}
use Rattle.node_step.specs.declared.outputs.Outputs.{Outputs}
use Rattle.node_step.specs.declared.response.Response.{Response}
use Rattle.node_step.specs.declared.response.Response.TheVariants.{Parked, Replied}
use Rattle.node_gate.specs.Asks.{Asked}
use Rattle.node_gate.specs.Asks.Asked.{asking, waiting}
use Rattle.connections.specs.declared.conn.Conn.{Conn}
use Rattle.listener.specs.declared.batch.Wrote.{Wrote}
use Rattle.listener.specs.declared.batch.Wrote.TheVariants as wrote
use Rattle.listener.specs.declared.farewell.Farewell.{Farewell}
use Rattle.listener.specs.declared.outgoing.Held.{Held}
use Rattle.listener.specs.declared.outgoing.Held.TheVariants as held
use Rattle.listener.specs.declared.outgoing.Left.{Left}
use Rattle.listener.specs.declared.outgoing.Left.TheVariants as left
use Rattle.listener.specs.declared.outgoing.Outgoing.{Outgoing}
use Rattle.listener.specs.declared.outgoing.TheConstants.{MOST_WAITING}
use Rattle.listener.specs.declared.reading.Came.{Came}
use Rattle.listener.specs.declared.reading.Came.TheVariants as came
use Rattle.listener.specs.declared.requests.Next.{Next}
use Rattle.listener.specs.declared.requests.Next.TheVariants as next
use Rattle.listener.specs.declared.talk.Talk.{Talk}
use Rattle.listener.specs.declared.fault.ConnFault.{ConnFault}
use Rattle.listener.specs.declared.fault.ConnFault.TheVariants.{Memory, Reader}
use Rattle.listener.specs.declared.requests.Rest.{Rest}
use Rattle.resp_values.specs.declared.reply.Reply.{Reply}
use Rattle.listener.specs.Streams.{Adds, Change, Stream, change}
use Rattle.listener.specs.Conversation.{IsSpoilt, error_bytes, line_of}
use Rattle.listener.specs.Progress.{Answers, Desk, Talks, desk}

-- the bytes of the reply in a response, if one is there
abbrev pub reply_in : Response → List ℕ
reply_in (Replied answer) = reply_spelling answer.reply
reply_in _ = []

-- that of a step
abbrev pub reply_of : {S : Type 0} → (S → Outputs) → S → List ℕ
reply_of gave step = reply_in (gave step).response

-- the bytes that stand behind the batch; none where a reply comes later
abbrev pub held_bytes : {S : Type 0} → (S → Outputs) → Held S → List ℕ
held_bytes gave held.Nothing = []
held_bytes gave held.Parked = []
held_bytes gave (held.Step step) = reply_of gave step
held_bytes gave (held.Reply reply) = reply_spelling reply

-- all that the client is still to be sent
abbrev pub waiting_of : {S : Type 0} → (S → Outputs) → Outgoing S → List ℕ
waiting_of gave outgoing = drop outgoing.sent outgoing.batch.items ++ held_bytes gave outgoing.held

-- what is left of bytes of which so many were sent
abbrev pub unsent : List ℕ × ℕ → List ℕ
unsent (bytes, sent) = drop sent bytes

-- whether the reply to the last request is there, or comes later
abbrev pub HasCome : {S : Type 0} → Outgoing S → Bool → Type 0
HasCome outgoing has_come = MatchBool has_come (outgoing.held ≢ held.Parked) (outgoing.held ≡ held.Parked)

-- a further reply may be put there
pub record HasRoom {S : Type 0} (outgoing : Outgoing S) : Type 0 where
  pub unsent : outgoing.sent ≡ 0
  pub short : length outgoing.batch.items < MOST_WAITING
  pub nothing : outgoing.held ≡ held.Nothing

-- a conversation, of its parts
abbrev pub talk_of : {S : Type 0} → Conn → ReaderState → Outgoing S → Talk S
talk_of conn requests outgoing = record { conn = conn; requests = requests; outgoing = outgoing }

-- all that its client is still to be sent
abbrev pub waiting_in : {S : Type 0} → (S → Outputs) → Talk S → List ℕ
waiting_in gave talk = waiting_of gave talk.outgoing

-- a conversation, what was asked through its gate, and its writer, as what is between two requests
abbrev pub desk_of : {S : Type 0} → (S → Outputs) → List Asked → Talk S → Stream → Desk
desk_of gave asked talk out = desk asked talk.requests.pending (waiting_in gave talk) out

-- the last request was parked: its reply comes later
abbrev pub IsParked : {S : Type 0} → Talk S → Type 0
IsParked talk = talk.outgoing.held ≡ held.Parked

-- no reply is to come later
abbrev pub IsHere : {S : Type 0} → Talk S → Type 0
IsHere talk = talk.outgoing.held ≢ held.Parked

-- no bad byte was found yet
abbrev pub IsSound : {S : Type 0} → Talk S → Type 0
IsSound talk = talk.requests.fault ≡ None

-- whole requests were answered, and then one was asked that is parked; of that nothing is to be sent yet
pub record Parks (allowed : Asked → Type 0) (conn : Conn) (old new : Desk) : Type 0 where
  pub before : Desk
  pub answers : Answers allowed conn old before
  pub words : List (List ℕ)
  pub outputs : Outputs
  pub is_request : IsRequest words
  pub parked : outputs.response ≡ Parked
  pub spelled : before.pending ≡ request_spelling words ++ new.pending
  pub history : Adds allowed (change before.asked new.asked) (asking (Request conn words) (Ok outputs) ∷ [])
  pub waiting : new.waiting ≡ before.waiting
  pub out : new.out ≡ before.out

-- what a turn did, by what comes next
abbrev pub Turns : (Asked → Type 0) → Conn → Next → Desk → Desk → Type 0
Turns allowed conn next.Hear old new = Parks allowed conn old new
Turns allowed conn _ old new = Answers allowed conn old new

-- how a turn leaves the bytes that are not answered, and whether a reply comes later
abbrev pub EndsTurn : {S : Type 0} → Next → ReaderState → ReaderState → Outgoing S → Type 0
EndsTurn next.Read old new outgoing = IsUnfinished new.pending × (new.fault ≡ None) × (outgoing.held ≢ held.Parked)
EndsTurn next.BadByte old new outgoing = (old.fault ≡ None → IsSpoilt new.pending) × (outgoing.held ≢ held.Parked)
EndsTurn next.Hear old new outgoing = (new.fault ≡ None) × (outgoing.held ≡ held.Parked)
EndsTurn next.Write old new outgoing = (old.fault ≡ None → new.fault ≡ None) × (outgoing.held ≢ held.Parked)
EndsTurn next.Answer old new outgoing = (old.fault ≡ None → new.fault ≡ None) × (outgoing.held ≢ held.Parked)

-- how a turn leaves a conversation
abbrev pub LeavesOff : {S : Type 0} → Talk S → Talk S → Next → Type 0
LeavesOff old new comes = EndsTurn comes old.requests new.requests new.outgoing

-- fewer bytes than before are not answered
abbrev pub Advances : ReaderState → ReaderState → Type 0
Advances old new = length new.pending < length old.pending

-- a turn that stops short has answered some, where there was room for a reply and any was to be answered
abbrev pub GoesOn : {S : Type 0} → ℕ → Outgoing S → ReaderState → ReaderState → Next → Type 0
GoesOn most outgoing old new comes = HasRoom outgoing → 0 < most → (comes ≡ next.Write) ⊎ (comes ≡ next.Answer) → Advances old new

-- the line that is still to be sent
abbrev pub line_bytes : Option ErrorLine → List ℕ
line_bytes None = []
line_bytes (Some line) = error_bytes line

-- all that a client is still to be sent that is being let go
abbrev pub farewell_of : {S : Type 0} → (S → Outputs) → Farewell S → List ℕ
farewell_of gave farewell = waiting_of gave farewell.outgoing ++ line_bytes farewell.line

-- the reply that comes later was waited for, and stands behind those that wait
pub record Hears (allowed : Asked → Type 0) (conn : Conn) (asked : Change (List Asked)) (waits : Change (List ℕ)) : Type 0 where
  pub reply : Reply
  pub history : Adds allowed asked (waiting conn (Some reply) ∷ [])
  pub put : waits.new ≡ waits.old ++ reply_spelling reply

-- so many bytes were read, none only at the end, and stand behind those that are not answered
pub record Reads {S : Type 0} (input : Change Stream) (old new : Talk S) (count : ℕ) : Type 0 where
  pub bytes : List ℕ
  pub read : Consumes input.old.bytes input.new.bytes bytes
  pub counted : length bytes ≡ count
  pub end : count ≡ 0 → IsAtEnd input.new.bytes
  pub fed : new.requests.pending ≡ old.requests.pending ++ bytes
  pub sound : new.requests.fault ≡ old.requests.fault
  pub same : input.new.failures ≡ input.old.failures

-- the reader failed, or there was no memory for what it gave
pub data ReadsNot (input : Change Stream) (fault : ConnFault) : Type 0 where
  reader_fails : fault ≡ Reader → Keeps input.old.bytes input.new.bytes → HasRisen input.old.failures input.new.failures → ReadsNot input fault
  finds_no_memory : (bytes : List ℕ) → fault ≡ Memory → Consumes input.old.bytes input.new.bytes bytes → input.new.failures ≡ input.old.failures → ReadsNot input fault

-- a conversation is over for the node, and the client is to be sent this
pub record Leaves (allowed : Asked → Type 0) (asked : Change (List Asked)) (input output : Change Stream)
    (ended : Result Rest ConnFault) (farewell : List ℕ) : Type 0 where
  pub left : List ℕ
  pub talks : Talks allowed asked input output ended left
  pub told : farewell ≡ left ++ line_of ended

-- what a write that doesn't wait did to the bytes that wait, and to the count of failed calls
abbrev pub WritesBy : Wrote → Change ℕ → Change (List ℕ) → Type 0
WritesBy wrote.Nothing count waits = (waits.new ≡ waits.old) × (count.new ≡ count.old)
WritesBy wrote.Some count waits = (length waits.new < length waits.old) × (count.new ≡ count.old)
WritesBy _ count waits = (waits.new ≡ waits.old) × (waits.old ≢ []) × HasRisen count.old count.new

-- what is told of the bytes that still wait behind such a write
abbrev pub IsLeftBy : Wrote → List ℕ → Left → Type 0
IsLeftBy did waits left.Nothing = waits ≡ []
IsLeftBy did waits left.More = did ≢ wrote.Nothing
IsLeftBy did waits left.Blocked = did ≡ wrote.Blocked
IsLeftBy did waits left.NoMemory = did ≡ wrote.Nothing

-- what was sent by one write, by what is told of the rest: only a writer whose count has risen takes the rest later, and what there is
-- no memory for was not begun
abbrev pub AccountsFor : Left → Change ℕ → Change (List ℕ) → Type 0
AccountsFor left.Nothing count waits = (waits.new ≡ []) × (count.new ≡ count.old)
AccountsFor left.More count waits = (length waits.new < length waits.old) ⊎ HasRisen count.old count.new
AccountsFor left.Blocked count waits = HasRisen count.old count.new
AccountsFor left.NoMemory count waits = (waits.new ≡ waits.old) × (count.new ≡ count.old)

-- what one read gave: bytes that stand in front in the room now; the end, unless there was no room; or nothing, where the reader's
-- count has risen
abbrev pub Gives : Change Stream → List ℕ → Came → Type 0
Gives input room (came.Bytes count) = (0 < count) × (count ≤ length room) × Consumes input.old.bytes input.new.bytes (take count room)
    × (input.new.failures ≡ input.old.failures)
Gives input room came.End = Keeps input.old.bytes input.new.bytes × (0 < length room → IsAtEnd input.new.bytes) × (input.new.failures ≡ input.old.failures)
Gives input room _ = Keeps input.old.bytes input.new.bytes × HasRisen input.old.failures input.new.failures
