-- The bytes on a client's connections, and where these lead (this project's own).
use Rattle.std.specs.Prelude.{◌≡◌, ◌++◌, ◌∷◌, ◌==◌, ℕ, List, [], length, Option, Some, None, slice_get, set, MatchBool, false, if◌then◌else◌, option_to_list}
use Rattle.exchange.specs.Exchange.{Exchanges, HasFailed}
use Rattle.exchange.specs.Wire.{Wire, wire_of}
use Rattle.exchange.specs.declared.outcome.Outcome.{Outcome}
use Rattle.exchange.specs.declared.outcome.Outcome.TheVariants as outcome
use Rattle.redirection.specs.Address.{Place}
use Rattle.smart_client.specs.Pool.{Pool, is_lost, place_in, without_place}
use Rattle.smart_client.specs.declared.action.Action.{Action}
use Rattle.smart_client.specs.declared.action.Action.TheVariants.{Connect, Send, Done}
use Rattle.smart_client.specs.declared.action.Event.{Event}
use Rattle.smart_client.specs.declared.action.Event.TheVariants as happened
use Rattle.smart_client.specs.declared.connect.ConnectFault.{ConnectFault}
use Rattle.smart_client.specs.declared.connect.ConnectFault.TheVariants as missed
use Rattle.smart_client.specs.declared.connection.Connection.{Connection}

-- ---- one connection

-- the nodes that its two ends reach, and what went out on it and comes in
pub record Channel : Type 0 where
  pub reads_from : Place
  pub writes_to : Place
  pub wire : Wire

-- it leads to the node at the address, nothing was read on it, and nothing failed
pub record IsFresh (address : Place) (channel : Channel) : Type 0 where
  pub reader : channel.reads_from ≡ address
  pub writer : channel.writes_to ≡ address
  pub reads : channel.wire.inlet.failures ≡ 0
  pub writes : channel.wire.outlet.failures ≡ 0
  pub unread : channel.wire.inlet.pending ≡ []
  pub sound : channel.wire.inlet.fault ≡ None

-- what came of a request, as the client's core is told
abbrev pub event_of : Outcome → Event
event_of (outcome.Reply reply) = happened.Reply reply
event_of outcome.BadReply = happened.BadReply
event_of (outcome.Broken handed) = happened.Broken handed
event_of (outcome.NoMemory handed) = happened.NoMemory handed

-- a request was sent, and this came of it
pub record Brings (words : List (List ℕ)) (old : Channel) (event : Event) (new : Channel) : Type 0 where
  pub outcome : Outcome
  pub told : event ≡ event_of outcome
  pub bytes : Exchanges words old.wire outcome new.wire
  pub reader : new.reads_from ≡ old.reads_from
  pub writer : new.writes_to ≡ old.writes_to

-- ---- all of them

-- one for each address of the pool, in its order; those that were closed, one after another, each as it was then; and how often no node
-- was reached
pub record Wires : Type 0 where
  pub channels : List Channel
  pub closed : List Channel
  pub failures : ℕ

-- the one at the place, if there is one
abbrev pub at_place : List Channel → Option ℕ → List Channel
at_place channels None = []
at_place channels (Some place) = option_to_list (slice_get channels place)

-- the one in use is closed, if there is one
abbrev pub wires_without : Option ℕ → Wires → Wires
wires_without used wires = record wires { channels = without_place wires.channels used; closed = wires.closed ++ at_place wires.channels used }

-- why there is no connection: a node that is not reached is counted
abbrev pub Misses : ConnectFault → ℕ → ℕ → Type 0
Misses missed.NotReached old new = HasFailed old new
Misses missed.Memory old new = new ≡ old

-- a fresh one to the address stands behind the others
pub record Joins (address : Place) (old new : Wires) : Type 0 where
  pub fresh : Channel
  pub is_fresh : IsFresh address fresh
  pub grown : new ≡ record old { channels = old.channels ++ fresh ∷ [] }

-- the one at the place is now so
abbrev pub with_channel : ℕ → Channel → Wires → Wires
with_channel place channel wires = record wires { channels = set wires.channels place channel }

-- and is closed, if it failed or its bytes are no reply
abbrev pub left_by : Event → ℕ → Wires → Wires
left_by event place wires = if is_lost event then wires_without (Some place) wires else wires

-- the one at the place took the request, and the others are as they were
pub record UsesAt (words : List (List ℕ)) (event : Event) (place : ℕ) (old new : Wires) : Type 0 where
  pub before : Channel
  pub after : Channel
  pub there : slice_get old.channels place ≡ Some before
  pub brings : Brings words before event after
  pub left : new ≡ left_by event place (with_channel place after old)

-- the one in use took the request; where none is in use, none of its bytes went out
abbrev pub Uses : List (List ℕ) → Event → Option ℕ → Wires → Wires → Type 0
Uses words event None old new = (event ≡ happened.Broken false) × (new ≡ old)
Uses words event (Some place) old new = UsesAt words event place old new

-- how the connections of the pool change where this comes of what was wanted
abbrev pub Moves : Action → Event → Pool → Wires → Wires → Type 0
Moves (Connect address) happened.Connected pool old new =
    MatchBool (place_in pool.addresses address == length pool.addresses) (Joins address old new) (new ≡ old)
Moves (Connect address) happened.NotConnected pool old new = (new ≡ record old { failures = new.failures }) × HasFailed old.failures new.failures
Moves (Connect address) (happened.NoMemory handed) pool old new = new ≡ old
Moves (Connect address) event pool old new = ⊥
Moves (Send words) event pool old new = Uses words event pool.used old new
Moves (Done answer close) event pool old new = ⊥

-- ---- between calls of a body, where no public clause needs it

-- a connection as clauses see it
abbrev pub channel_at : {R W : Type 0} → (R → Option (List ℕ)) → (W → Option (List ℕ)) → (R → Place) → (W → Place) → Connection R W → Channel
channel_at remaining contents reads writes connection = record {
  reads_from = reads connection.reads_from.value;
  writes_to = writes connection.writes_to.value;
  wire = wire_of remaining contents connection.reader connection.sender connection.replies;
}

-- the pool, the connections in it, and those that were closed
pub record Lines : Type 0 where
  pub pool : Pool
  pub channels : List Channel
  pub closed : List Channel

-- and how often no node was reached
abbrev pub wires_of : Lines → ℕ → Wires
wires_of lines failures = record { channels = lines.channels; closed = lines.closed; failures = failures }
