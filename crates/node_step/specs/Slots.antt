-- What a node holds in a slot (Redis Cluster specification, "Key distribution model"; Redis command reference,
-- "CLUSTER COUNTKEYSINSLOT", "CLUSTER GETKEYSINSLOT").
use Rattle.std.specs.Prelude.{ℕ, nat_lt, Bool, List, [], ◌∷◌, Option, Some, None, if◌then◌else◌}
use Rattle.std.specs.FinMap as fin_map
use Rattle.keyspace.specs.Keyspace.{Keyspace}
use Rattle.slot_store.specs.InSlot.{in_slot}
use Rattle.slot_table.specs.declared.entry.SlotEntry.{SlotEntry}
use Rattle.slot_table.specs.Table.{entry_at}
use Rattle.slot_state.specs.Moves.{move_of}
use Rattle.slot_state.specs.declared.running.Move.{Move}
use Rattle.slot_state.specs.declared.running.Move.TheVariants.{Leaves, Comes}
use Rattle.bus.specs.declared.message.Body.{Body}
use Rattle.bus.specs.declared.bodies.SlotsBody.TheVariants.{Drained}
use Rattle.bus.specs.declared.message.Body.TheVariants.{Slots}
use Rattle.node_step.specs.State.{NodeState}

-- the keys of the slot, in byte order
abbrev pub keys_in : Keyspace → ℕ → List (List ℕ)
keys_in keyspace slot = fin_map.keys (in_slot slot keyspace)

-- how many there are
abbrev pub count_in : Keyspace → ℕ → ℕ
count_in keyspace slot = fin_map.len (in_slot slot keyspace)

-- there is one
abbrev pub has_keys : Keyspace → ℕ → Bool
has_keys keyspace slot = nat_lt 0 (count_in keyspace slot)

-- the epoch of a slot in the node's table
abbrev pub epoch_in_table : Option SlotEntry → ℕ
epoch_in_table None = 0
epoch_in_table (Some entry) = entry.epoch

abbrev pub slot_epoch : NodeState → ℕ → ℕ
slot_epoch node slot = epoch_in_table (entry_at node.table slot)

-- where the slot leaves, the word that none of its keys is left goes to the node that it leaves to
abbrev pub drained_by : ℕ → ℕ → Option Move → List (ℕ × Body)
drained_by slot epoch None = []
drained_by slot epoch (Some (Comes from number last drained)) = []
drained_by slot epoch (Some (Leaves to number copies frozen)) = (to, Slots (Drained slot number epoch)) ∷ []

abbrev pub drained : NodeState → ℕ → List (ℕ × Body)
drained node slot = drained_by slot (slot_epoch node slot) (move_of node.moves slot)

-- said where none is left
abbrev pub drained_if_empty : NodeState → ℕ → List (ℕ × Body)
drained_if_empty node slot = if has_keys node.keyspace slot then [] else drained node slot

-- said by a step that took the last one
abbrev pub drained_since : Keyspace → NodeState → ℕ → List (ℕ × Body)
drained_since before node slot = if has_keys before slot then drained_if_empty node slot else []
