-- What a node reports about the cluster and about itself (Redis command reference, "CLUSTER KEYSLOT", "CLUSTER MYID",
-- "CLUSTER SLOTS", "CLUSTER COUNTKEYSINSLOT", "CLUSTER GETKEYSINSLOT"; SLOTSTATE is ours).
use Rattle.std.specs.Prelude.{ℕ, pos, Bool, false, List, [], ◌∷◌, map, take, is_some, Option, Some, None, slice_get, codes, if◌then◌else◌}
use Rattle.resp_values.specs.Reply.{array_of}
use Rattle.resp_values.specs.declared.reply.Reply.{Reply}
use Rattle.resp_values.specs.declared.reply.Reply.TheVariants.{Integer, Bulk, Null, Array}
use Rattle.slot_table.specs.declared.runs.Run.{Run}
use Rattle.slot_table.specs.Table.{owner_at}
use Rattle.slot_state.specs.Moves.{move_of, last_move_of}
use Rattle.slot_state.specs.State.{state_of}
use Rattle.slot_state.specs.declared.running.Move.{Move}
use Rattle.slot_state.specs.declared.running.Move.TheVariants.{Leaves, Comes}
use Rattle.slot_state.specs.declared.state.SlotState.{SlotState}
use Rattle.slot_state.specs.declared.state.SlotState.TheVariants.{Owned, Foreign, Moving}
use Rattle.cluster_config.specs.Config.{ClusterConfig}
use Rattle.cluster_config.specs.declared.config.NodeConfig.{NodeConfig}
use Rattle.node_step.specs.Slots.{count_in, keys_in}
use Rattle.node_step.specs.State.{NodeState}

-- the id of a node; null of one that isn't in the configuration
abbrev pub id_reply : Option NodeConfig → Reply
id_reply None = Null
id_reply (Some node) = Bulk node.id

-- a master as CLUSTER SLOTS has it: its host, its port, its id
abbrev pub master_reply : Option NodeConfig → Reply
master_reply None = Null
master_reply (Some node) = Array (array_of (Bulk node.host ∷ Integer (pos node.port) ∷ Bulk node.id ∷ []))

-- a run of slots: the first, the last, and their master
abbrev pub run_reply : ClusterConfig → Run ℕ → Reply
run_reply config run =
    Array (array_of (Integer (pos run.slots.first) ∷ Integer (pos run.slots.last) ∷ master_reply (slice_get config.nodes run.value) ∷ []))

-- all runs
abbrev pub slots_reply : ClusterConfig → List (Run ℕ) → Reply
slots_reply config runs = Array (array_of (map (run_reply config) runs))

-- the node of that number by its id
abbrev pub id_of : ClusterConfig → ℕ → Reply
id_of config number = id_reply (slice_get config.nodes number)

abbrev pub owner_reply : ClusterConfig → Option ℕ → Reply
owner_reply config None = Null
owner_reply config (Some owner) = id_of config owner

-- ---- CLUSTER SLOTSTATE

-- what the node does with the slot, by a word, and the node that this is about
abbrev pub state_word : SlotState Move → List ℕ
state_word Owned = codes "owned"
state_word Foreign = codes "foreign"
state_word (Moving (Leaves to number copies frozen)) = codes "migrating"
state_word (Moving (Comes from number last drained)) = codes "importing"

abbrev pub state_node : NodeState → ℕ → SlotState Move → Reply
state_node node slot Owned = id_of node.config node.number
state_node node slot Foreign = owner_reply node.config (owner_at node.table slot)
state_node node slot (Moving (Leaves to number copies frozen)) = id_of node.config to
state_node node slot (Moving (Comes from number last drained)) = id_of node.config from

-- the number of the move under way, and whether it is an import that is drained
abbrev pub state_number : SlotState Move → ℕ
state_number Owned = 0
state_number Foreign = 0
state_number (Moving (Leaves to number copies frozen)) = number
state_number (Moving (Comes from number last drained)) = number

abbrev pub state_drained : SlotState Move → Bool
state_drained Owned = false
state_drained Foreign = false
state_drained (Moving (Leaves to number copies frozen)) = false
state_drained (Moving (Comes from number last drained)) = is_some drained

abbrev pub one_if : Bool → ℕ
one_if holds = if holds then 1 else 0

abbrev pub state_reply_of : NodeState → ℕ → SlotState Move → Reply
state_reply_of node slot state = Array (array_of (
    Bulk (state_word state) ∷ state_node node slot state ∷ Integer (pos (state_number state)) ∷ Integer (pos (last_move_of node.moves slot))
    ∷ Integer (pos (count_in node.keyspace slot)) ∷ Integer (pos (one_if (state_drained state))) ∷ []))

abbrev pub state_reply : NodeState → ℕ → Reply
state_reply node slot = state_reply_of node slot (state_of (owner_at node.table slot) (move_of node.moves slot) node.number)

-- ---- keys of a slot

abbrev pub count_reply : NodeState → ℕ → Reply
count_reply node slot = Integer (pos (count_in node.keyspace slot))

abbrev pub keys_reply : NodeState → ℕ → ℕ → Reply
keys_reply node slot count = Array (array_of (map Bulk (take count (keys_in node.keyspace slot))))
