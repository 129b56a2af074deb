-- Keys on their way to another node (Redis command reference, "MIGRATE", of which this is a profile; the messages, the
-- numbers of copies and the refusals are ours).
use Rattle.std.specs.Prelude.{ℕ, ◌&&◌, ℤ, pos, nat_eq, not, Bool, List, [], ◌∷◌, filter, map, is_some, Option, Some, None, codes, if◌then◌else◌}
use Rattle.std.specs.Cmp.Lexicographic.{pointwise}
use Rattle.std.specs.List.{filter_map, list_all, position}
use Rattle.std.specs.FinMap as fin_map
use Rattle.std.specs.Ordering.{int_eq}
use Rattle.std.specs.Str.{bytes_eq}
use Rattle.resp_values.specs.declared.reply.Reply.TheVariants.{Simple}
use Rattle.command_table.specs.declared.error_line.ErrorLine.TheVariants as line
use Rattle.key_slot.specs.Slot.{hash_slot}
use Rattle.keyspace.specs.Keyspace.{Keyspace}
use Rattle.keyspace.specs.Rebuilding.{rebuilding, fits_request}
use Rattle.keyspace.specs.declared.value.Value.{Value}
use Rattle.cluster_config.specs.declared.config.NodeConfig.{NodeConfig}
use Rattle.redirect.specs.Decision.{has_other_slot}
use Rattle.slot_state.specs.Moves.{copy_id, move_of}
use Rattle.slot_state.specs.declared.copy_id.CopyId.{CopyId}
use Rattle.slot_state.specs.declared.running.Move.{Move}
use Rattle.slot_state.specs.declared.running.Move.TheVariants.{Leaves, Comes}
use Rattle.migrate.specs.Sending.{copy_verdict, after_copy_order}
use Rattle.migrate.specs.Arriving.{arrival_verdict, after_arrival}
use Rattle.migrate.specs.Acknowledging.{acknowledged_keys, after_ack}
use Rattle.migrate.specs.Draining.{after_drained}
use Rattle.migrate.specs.declared.sending.CopyVerdict.{CopyVerdict}
use Rattle.migrate.specs.declared.sending.CopyVerdict.TheVariants.{CrossSlot, WrongTarget, NoKey, CopyOutstanding, SendAgain, Copies, Exhausted}
use Rattle.migrate.specs.declared.arriving.ArrivalVerdict.{ArrivalVerdict}
use Rattle.migrate.specs.declared.arriving.ArrivalVerdict.TheVariants.{Ignored, Installs, Repeats}
use Rattle.bus.specs.declared.message.Body.{Body}
use Rattle.bus.specs.declared.bodies.SlotsBody.TheVariants.{Copy, Ack}
use Rattle.bus.specs.declared.message.Body.TheVariants.{Slots}
use Rattle.connections.specs.Connections.{all_freed, waiting, with_change}
use Rattle.connections.specs.Waiting.{is_for}
use Rattle.node_step.specs.Outcome.{Outcome, error, release, replied, silent}
use Rattle.node_step.specs.Orders.{done, with_moves}
use Rattle.node_step.specs.Slots.{drained_since}
use Rattle.node_step.specs.State.{NodeState}
use Rattle.connections.specs.declared.conn.Conn.{Conn}
use Rattle.connections.specs.declared.conn.Connection.{Connection}
use Rattle.node_step.specs.declared.response.Response.TheVariants.{Parked}
use Rattle.node_step.specs.declared.response.Why.TheVariants.{Copies as CopyOrdered}

-- ---- MIGRATE: keys are to be copied

-- a node has that address
abbrev pub is_at : List ℕ → ℤ → NodeConfig → Bool
is_at host port node = bytes_eq node.host host && int_eq (pos node.port) port

abbrev pub node_at : NodeState → List ℕ → ℤ → Option ℕ
node_at node host port = position (is_at host port) node.config.nodes

-- the keys of an order, each once, in the order in which they are named first
abbrev pub each_once : List (List ℕ) → List (List ℕ)
each_once [] = []
each_once (key ∷ keys) = key ∷ filter (λ other. not (pointwise nat_eq other key)) (each_once keys)

-- those of them that are there
abbrev pub those_there : Keyspace → List (List ℕ) → List (List ℕ)
those_there keyspace keys = filter (λ key. is_some (fin_map.get keyspace key)) (each_once keys)

-- keys with their values
abbrev pub pair_with : List ℕ → Option Value → Option (List ℕ × Value)
pair_with key None = None
pair_with key (Some value) = Some (key, value)

abbrev pub pairs_at : Keyspace → List (List ℕ) → List (List ℕ × Value)
pairs_at keyspace keys = filter_map (λ key. pair_with key (fin_map.get keyspace key)) keys

-- the copy that is not acknowledged, of a slot with that move, for the node that the slot leaves to
abbrev pub outstanding : Keyspace → ℕ → Option Move → List (ℕ × Body)
outstanding keyspace slot (Some (Leaves to number copies (Some keys))) = (to, Slots (Copy (copy_id slot number copies) (pairs_at keyspace keys))) ∷ []
outstanding keyspace slot (Some (Leaves to number copies None)) = []
outstanding keyspace slot (Some (Comes from number last drained)) = []
outstanding keyspace slot None = []

-- the connection waits for the acknowledgement, for so many ticks
abbrev pub waiting_for : CopyId → ℕ → Connection → Connection
waiting_for id ticks connection = record connection { waits = Some (record { id = id; ticks = ticks }) }

abbrev pub parked : NodeState → Conn → CopyId → ℕ → NodeState
parked node conn id ticks = record node { connections = with_change node.connections conn (waiting_for id ticks) }

-- the outstanding copy is sent, or sent again
abbrev pub sending : NodeState → Conn → CopyId → ℕ → Outcome
sending node conn id ticks = record (silent (parked node conn id ticks)) {
  response = Parked;
  sent = outstanding node.keyspace id.slot (move_of node.moves id.slot);
}

abbrev pub copy_outcome : NodeState → Conn → ℕ → List (List ℕ) → ℕ → CopyVerdict → Outcome
copy_outcome node conn slot keys ticks CrossSlot = replied node (CopyOrdered CrossSlot) (error line.CrossSlot)
copy_outcome node conn slot keys ticks WrongTarget = replied node (CopyOrdered WrongTarget) (error line.WrongTarget)
copy_outcome node conn slot keys ticks NoKey = replied node (CopyOrdered NoKey) (Simple (codes "NOKEY"))
copy_outcome node conn slot keys ticks CopyOutstanding = replied node (CopyOrdered CopyOutstanding) (error line.CopyOutstanding)
copy_outcome node conn slot keys ticks Exhausted = silent node
copy_outcome node conn slot keys ticks (SendAgain to number copy) = sending node conn (copy_id slot number copy) ticks
copy_outcome node conn slot keys ticks (Copies to number copy) =
    sending (with_moves node (after_copy_order node.moves slot keys (Copies to number copy))) conn (copy_id slot number copy) ticks

-- the slot of the first key, in which all are to be
abbrev pub first_slot : List (List ℕ) → ℕ
first_slot [] = 0
first_slot (key ∷ others) = hash_slot key

abbrev pub copy_verdict_on : NodeState → List (List ℕ) → Option ℕ → CopyVerdict
copy_verdict_on node keys target =
    if has_other_slot (first_slot keys) keys then CrossSlot
    else copy_verdict (move_of node.moves (first_slot keys)) target (those_there node.keyspace keys)

abbrev pub migration : NodeState → Conn → List ℕ → ℤ → List (List ℕ) → ℕ → Outcome
migration node conn host port keys ticks =
    copy_outcome node conn (first_slot keys) (those_there node.keyspace keys) ticks (copy_verdict_on node keys (node_at node host port))

-- ---- a copy arrives

-- the requests that make the keys with their values keep the limits
abbrev pub keep_limits : List (List ℕ × Value) → Bool
keep_limits pairs = list_all (λ pair. fits_request (rebuilding pair.0 pair.1)) pairs

-- all are installed, or none is
abbrev pub with_copied : Keyspace → List (List ℕ × Value) → Keyspace
with_copied keyspace [] = keyspace
with_copied keyspace (pair ∷ pairs) = with_copied (fin_map.insert keyspace pair.0 pair.1) pairs

abbrev pub installed : Keyspace → List (List ℕ × Value) → ArrivalVerdict → Keyspace
installed keyspace pairs Installs = with_copied keyspace pairs
installed keyspace pairs Repeats = keyspace
installed keyspace pairs Ignored = keyspace

abbrev pub ack_by : ℕ → CopyId → ArrivalVerdict → List (ℕ × Body)
ack_by from id Installs = (from, Slots (Ack id)) ∷ []
ack_by from id Repeats = (from, Slots (Ack id)) ∷ []
ack_by from id Ignored = []

abbrev pub arrived : NodeState → ℕ → CopyId → List (List ℕ × Value) → ArrivalVerdict → Outcome
arrived node from id pairs verdict =
    record (silent (record node { keyspace = installed node.keyspace pairs verdict; moves = after_arrival node.moves id.slot verdict })) {
      sent = ack_by from id verdict;
    }

abbrev pub arrival : NodeState → ℕ → CopyId → List (List ℕ × Value) → Outcome
arrival node from id pairs =
    arrived node from id pairs (arrival_verdict (move_of node.moves id.slot) from id.number id.copy (keep_limits pairs))

-- ---- an acknowledgement arrives

-- the keys are deleted here, and who waited for them is answered
abbrev pub without : Keyspace → List (List ℕ) → Keyspace
without keyspace [] = keyspace
without keyspace (key ∷ keys) = without (fin_map.remove keyspace key) keys

abbrev pub without_keys : NodeState → CopyId → List (List ℕ) → NodeState
without_keys node id keys = record node {
  keyspace = without node.keyspace keys;
  moves = after_ack node.moves id.slot;
  connections = all_freed node.connections (is_for id);
}

abbrev pub acknowledged : NodeState → CopyId → Option (List (List ℕ)) → Outcome
acknowledged node id None = silent node
acknowledged node id (Some keys) = record (silent (without_keys node id keys)) {
  released = map (release done) (waiting node.connections (is_for id));
  sent = drained_since node.keyspace (without_keys node id keys) id.slot;
}

abbrev pub acknowledgement : NodeState → ℕ → CopyId → Outcome
acknowledgement node from id =
    acknowledged node id (acknowledged_keys (move_of node.moves id.slot) from id.number id.copy)

-- ---- the word arrives that a slot is drained

abbrev pub noted : NodeState → ℕ → ℕ → ℕ → ℕ → Outcome
noted node from slot number epoch = silent (with_moves node (after_drained node.moves slot from number epoch))
