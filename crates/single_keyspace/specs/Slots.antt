-- The slots of a cluster, each seen over all nodes (Redis Cluster specification, "Key distribution model"; the view over all
-- nodes is ours).
use Rattle.std.specs.Prelude.{ℕ, ◌==◌, Bool, true, List, Option, Some, None, unwrap_or, length, slice_get, if◌then◌else◌}
use Rattle.std.specs.FinMap as fin_map
use Rattle.keyspace.specs.Keyspace.{Keyspace}
use Rattle.keyspace.specs.declared.value.Value.{Value}
use Rattle.cluster_config.specs.Config.{ClusterConfig, first_owners}
use Rattle.slot_store.specs.InSlot.{is_in_slot}
use Rattle.slot_state.specs.Moves.{last_move_of, move_of}
use Rattle.slot_table.specs.Table.{entry_at, first_table}
use Rattle.slot_table.specs.declared.entry.SlotEntry.{SlotEntry}
use Rattle.one_slot.specs.View.{View, Views}
use Rattle.node_step.specs.State.{NodeState, is_replica}

-- what a keyspace has of a slot
abbrev pub values_in : Keyspace → ℕ → List ℕ → Option Value
values_in keyspace slot key = if is_in_slot slot key then fin_map.get keyspace key else None

-- a slot at a node
abbrev pub view_of : NodeState → ℕ → View Value
view_of node slot = record {
  entry = entry_at node.table slot;
  move = move_of node.moves slot;
  last = last_move_of node.moves slot;
  value = values_in node.keyspace slot;
}

-- at a node that isn't there; one that isn't there owns the slots without an owner
abbrev pub nowhere : SlotEntry → View Value
nowhere first = record { entry = Some first; move = None; last = 0; value = λ key. None }

-- a replica has no part in a slot: what it copies of its master's keys is not seen
abbrev pub is_hidden : NodeState → Bool
is_hidden node = is_replica node

-- a master that handed its slots over, and whose place was taken: until it hears of that it keeps them in its table, and keeps their keys.
-- Neither is seen; old moves are over there as before
abbrev pub seen_out : View Value → View Value
seen_out view = record view { entry = None; move = None; value = λ key. None }

abbrev pub if_out : Bool → View Value → View Value
if_out out view = if out then seen_out view else view

abbrev pub view_at : SlotEntry → ℕ → Bool → Option NodeState → View Value
view_at first slot out None = nowhere first
view_at first slot out (Some node) = if is_hidden node then nowhere first else if_out out (view_of node slot)

-- over all nodes, some of which are out
abbrev pub views : SlotEntry → (ℕ → Bool) → List NodeState → ℕ → Views Value
views first out nodes slot number = view_at first slot (out number) (slice_get nodes number)

-- one more
abbrev pub out_too : (ℕ → Bool) → ℕ → ℕ → Bool
out_too out node number = if number == node then true else out number

-- the owner of a slot at the start
abbrev pub first_of : ClusterConfig → ℕ → SlotEntry
first_of config slot = unwrap_or (entry_at (first_table (first_owners config)) slot) (record { epoch = 0; owner = length config.nodes })
