-- A client's call as a whole: how it goes on, and when a command is sent again.
use Rattle.std.specs.Prelude.{◌≡◌, ◌≢◌, ◌+◌, ◌-◌, ◌*◌, ◌<◌, ◌++◌, ◌∷◌, ◌&&◌, ◌⊎◌, ℕ, Bool, true, false, List, [], map, Option, Some, None, Ok, ⊤, if◌then◌else◌}
use Rattle.resp_values.specs.declared.reply.Reply.{Reply}
use Rattle.resp_values.specs.declared.reply.Reply.TheVariants.{Error}
use Rattle.smart_client.specs.ErrorKind.{kind_of}
use Rattle.smart_client.specs.Pool.{Pool, closed, pool_after}
use Rattle.smart_client.specs.State.{ClientState}
use Rattle.smart_client.specs.Step.{Answer, MayCome, MayComeTo, Steps}
use Rattle.smart_client.specs.Wires.{Moves, Uses, Wires, wires_without}
use Rattle.smart_client.specs.declared.action.Action.{Action}
use Rattle.smart_client.specs.declared.action.Action.TheVariants.{Connect, Send, Done}
use Rattle.smart_client.specs.declared.action.Event.{Event}
use Rattle.smart_client.specs.declared.action.Event.TheVariants as happened
use Rattle.smart_client.specs.declared.call.Call.{Call}
use Rattle.smart_client.specs.declared.call.Stage.{Stage}
use Rattle.smart_client.specs.declared.call.Stage.TheVariants.{Connecting, Introducing, Asking, Sent}
use Rattle.smart_client.specs.Limits.{most_redirections}
use Rattle.smart_client.specs.declared.error_kind.ErrorKind.{ErrorKind}
use Rattle.smart_client.specs.declared.error_kind.ErrorKind.TheVariants.{Redirection, TryAgain}

-- ---- what a call waits for, and how long

-- a connection is awaited where one was wanted, a reply where words were to be sent, and a call once the last one is over
abbrev pub IsWaiting : Action → Option Call → Type 0
IsWaiting (Connect address) None = ⊥
IsWaiting (Connect address) (Some call) = call.stage ≡ Connecting
IsWaiting (Send words) None = ⊥
IsWaiting (Send words) (Some call) = call.stage ≢ Connecting
IsWaiting (Done answer close) under = under ≡ None

abbrev pub rank : Stage → ℕ
rank Connecting = 3
rank Introducing = 2
rank Asking = 1
rank Sent = 0

-- so many events may still come before the one that ends the call, at most
abbrev pub left_of : ℕ → Call → ℕ
left_of limit call = rank call.stage + 4 * ((most_redirections - call.redirections) + (limit - call.repeats))

-- each event brings a call nearer to its end
abbrev pub Nears : ℕ → Option Call → Option Call → Type 0
Nears limit (Some call) (Some next) = left_of limit next < left_of limit call
Nears limit _ _ = ⊤

-- ---- runs

-- an event, and what the client wants done then
pub record Moment : Type 0 where
  pub event : Event
  pub action : Action

-- the client takes one event after another
abbrev pub IsRun : ClientState → List Moment → ClientState → Type 0
IsRun old [] new = new ≡ old
IsRun old (moment ∷ moments) new =
    (between : ClientState) × MayCome old.call moment.event × Steps old moment.event moment.action between × IsRun between moments new

-- the event begins no call
abbrev pub IsWithin : Event → Type 0
IsWithin (happened.Call words) = ⊥
IsWithin _ = ⊤

abbrev pub AreWithin : List Moment → Type 0
AreWithin [] = ⊤
AreWithin (moment ∷ moments) = IsWithin moment.event × AreWithin moments

-- what happens in one call with these words, from its beginning on
abbrev pub IsCallOf : List (List ℕ) → ClientState → List Moment → ClientState → Type 0
IsCallOf words old [] new = ⊥
IsCallOf words old (moment ∷ moments) new = (moment.event ≡ happened.Call words) × AreWithin moments × IsRun old (moment ∷ moments) new

-- what the client wanted done, and what came of it
pub record Deed : Type 0 where
  pub action : Action
  pub event : Event

-- the moments of a call in which these deeds were done before the last thing that it wanted
abbrev pub moments_of : Event → List Deed → Action → List Moment
moments_of event [] last = record { event = event; action = last } ∷ []
moments_of event (deed ∷ deeds) last = record { event = event; action = deed.action } ∷ moments_of deed.event deeds last

-- what may come of it: a connection or none, a reply or none
abbrev pub MayAnswer : Action → Event → Type 0
MayAnswer (Connect address) event = MayComeTo Connecting event
MayAnswer (Send words) event = MayComeTo Sent event
MayAnswer (Done answer close) event = ⊥

-- the connections that these deeds leave
abbrev pub pool_behind : List Deed → Pool → Pool
pool_behind [] pool = pool
pool_behind (deed ∷ deeds) pool = pool_behind deeds (pool_after deed.action deed.event pool)

-- something was done: before that no connection is in use
abbrev pub is_begun : List Deed → Bool
is_begun [] = false
is_begun (deed ∷ deeds) = true

-- the one in use is closed, or isn't
abbrev pub closed_if : Bool → Pool → Pool
closed_if close pool = if close then closed pool else pool

-- what these deeds do to the connections and their bytes, one after another
abbrev pub WiresMove : List Deed → Pool → Wires → Wires → Type 0
WiresMove [] pool old new = new ≡ old
WiresMove (deed ∷ deeds) pool old new =
    (between : Wires) × Moves deed.action deed.event pool old between × WiresMove deeds (pool_after deed.action deed.event pool) between new

abbrev pub wires_closed_if : Bool → Option ℕ → Wires → Wires
wires_closed_if close used wires = if close then wires_without used wires else wires

-- a client, all that it had done, the connections that there are, and the bytes on them
pub record ClientView : Type 0 where
  pub state : ClientState
  pub deeds : List Deed
  pub pool : Pool
  pub wires : Wires

-- a call with these words: what came of each thing that it wanted led to the next one, and the last of them was this answer; the
-- connection that is in use then is closed, if the client wants that: where nothing was done there is none
pub record Calls (words : List (List ℕ)) (old : ClientView) (answer : Answer) (new : ClientView) : Type 0 where
  pub deeds : List Deed
  pub close : Bool
  pub done : new.deeds ≡ old.deeds ++ deeds
  pub call : IsCallOf words old.state (moments_of (happened.Call words) deeds (Done answer close)) new.state
  pub pool : new.pool ≡ closed_if (is_begun deeds && close) (pool_behind deeds old.pool)
  pub reached : Wires
  pub moved : WiresMove deeds old.pool old.wires reached
  pub wires : new.wires ≡ wires_closed_if (is_begun deeds && close) (pool_behind deeds old.pool).used reached

-- MOVED, ASK or TRYAGAIN: the node did not execute the command
abbrev pub is_refusing : ErrorKind → Type 0
is_refusing Redirection = ⊤
is_refusing TryAgain = ⊤
is_refusing _ = ⊥

abbrev pub IsRefusal : Event → Type 0
IsRefusal (happened.Reply (Error text)) = is_refusing (kind_of text)
IsRefusal _ = ⊥

abbrev pub IsDone : Action → Type 0
IsDone (Done answer close) = ⊤
IsDone _ = ⊥

-- once the command was sent, the call ends with the next event, or this tells that the node refused the command: nothing is sent again
-- that may have been executed
abbrev pub SendsOnce : Type 0
SendsOnce = (words : List (List ℕ)) (old new : ClientState) (before after : List Moment) (sending next : Moment)
    → IsCallOf words old (before ++ sending ∷ next ∷ after) new → sending.action ≡ Send words → IsDone next.action ⊎ IsRefusal next.event

-- both ends of each connection reach the node at its address
pub record Lead (pool : Pool) (wires : Wires) : Type 0 where
  pub readers : map (λ channel. channel.reads_from) wires.channels ≡ pool.addresses
  pub writers : map (λ channel. channel.writes_to) wires.channels ≡ pool.addresses

-- and so they do after each call
abbrev pub ConnectionsLead : Type 0
ConnectionsLead = (words : List (List ℕ)) (old new : ClientView) (answer : Answer) → Lead old.pool old.wires → Calls words old answer new → Lead new.pool new.wires

-- this reply was read last, on the connection in use, for what was sent on it; the bytes of both are in `reads`
pub record IsRead (old : ClientView) (reply : Reply) (new : ClientView) : Type 0 where
  pub front : List Deed
  pub sent : List (List ℕ)
  pub done : new.deeds ≡ old.deeds ++ (front ++ record { action = Send sent; event = happened.Reply reply } ∷ [])
  pub between : Wires
  pub moved : WiresMove front old.pool old.wires between
  pub after : Wires
  pub reads : Uses sent (happened.Reply reply) (pool_behind front old.pool).used between after

-- a call gives no reply but one that was read so
abbrev pub RepliesAreRead : Type 0
RepliesAreRead = (words : List (List ℕ)) (old new : ClientView) (reply : Reply) → Calls words old (Ok reply) new → IsRead old reply new
