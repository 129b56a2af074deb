-- Claims of other nodes to slots (Redis Cluster specification, "Hash slots configuration propagation", "UPDATE messages";
-- what becomes of the keys of a slot that was lost is ours).
use Rattle.std.specs.Prelude.{ℕ, ◌==◌, ◌&&◌, Bool, false, not, List, map, Option, Some, None, if◌then◌else◌}
use Rattle.std.specs.FinMap as fin_map
use Rattle.command_table.specs.declared.error_line.ErrorLine.TheVariants as line
use Rattle.key_slot.specs.Slot.{hash_slot}
use Rattle.slot_table.specs.declared.runs.Run.{Run}
use Rattle.slot_table.specs.declared.entry.SlotEntry.{SlotEntry}
use Rattle.slot_table.specs.Claims.{merged}
use Rattle.slot_table.specs.Table.{owner_at}
use Rattle.migrate.specs.Losing.{after_loss}
use Rattle.connections.specs.Connections.{all_freed, waiting}
use Rattle.node_step.specs.Outcome.{Outcome, error, release, silent}
use Rattle.node_step.specs.State.{NodeState}
use Rattle.connections.specs.declared.conn.Wait.{Wait}

-- the slot is owned by the node
abbrev pub is_owner : Option ℕ → ℕ → Bool
is_owner None number = false
is_owner (Some owner) number = owner == number

-- the node owned the slot, and by the new table doesn't
abbrev pub is_lost : NodeState → List (Option SlotEntry) → ℕ → Bool
is_lost node table slot = is_owner (owner_at node.table slot) node.number && not (is_owner (owner_at table slot) node.number)

-- a connection waits for a copy of a slot that was lost
abbrev pub is_for_lost : NodeState → List (Option SlotEntry) → Wait → Bool
is_for_lost node table wait = is_lost node table wait.id.slot

-- the slots that are lost leave with their keys
abbrev pub with_table : NodeState → List (Option SlotEntry) → NodeState
with_table node table = record node {
  table = table;
  keyspace = fin_map.retain_keys node.keyspace (λ key. not (is_lost node table (hash_slot key)));
  moves = after_loss node.moves (is_lost node table);
  connections = all_freed node.connections (is_for_lost node table);
}

abbrev pub claimed_by : NodeState → List (Option SlotEntry) → Outcome
claimed_by node table = record (silent (with_table node table)) {
  released = map (release (error line.NotAcknowledged)) (waiting node.connections (is_for_lost node table));
}

-- a node learns nothing from a claim of its own
abbrev pub claim : NodeState → ℕ → List (Run ℕ) → Outcome
claim node from taken = if from == node.number then silent node else claimed_by node (merged node.table taken from)
