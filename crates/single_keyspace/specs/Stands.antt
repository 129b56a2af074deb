-- What holds of a cluster in a run, slot by slot (ours).
use Rattle.std.specs.Prelude.{◌≡◌, ◌≢◌, ◌≤◌, ◌⊎◌, Bool, true, false, None, ℕ, List, [], ◌∷◌, length, Contains, Some, Result, Ok, Err, slice_get}
use Rattle.command_table.specs.Keys.{keys_of}
use Rattle.command_table.specs.Table.{command_of}
use Rattle.command_table.specs.declared.command.Command.{Command}
use Rattle.command_table.specs.declared.fault.CommandFault.{CommandFault}
use Rattle.key_slot.specs.Slot.{hash_slot}
use Rattle.keyspace.specs.Keyspace.{Keyspace}
use Rattle.keyspace.specs.declared.value.Value.{Value}
use Rattle.slot_table.specs.Claims.{claimed}
use Rattle.slot_table.specs.Table.{entry_at, owner_at}
use Rattle.slot_table.specs.declared.entry.SlotEntry.{SlotEntry}
use Rattle.slot_state.specs.Moves.{move_of}
use Rattle.bus.specs.declared.message.Body.{Body}
use Rattle.bus.specs.declared.bodies.SlotsBody.TheVariants as of_slots
use Rattle.bus.specs.declared.message.Body.TheVariants as body
use Rattle.bus.specs.declared.bodies.Handing.{Handing}
use Rattle.bus.specs.declared.message.Message.{Message}
use Rattle.handovers.specs.Peers.{Peers}
use Rattle.handovers.specs.Stands.{IsTrue, PeerStands}
use Rattle.cluster_config.specs.Config.{ClusterConfig}
use Rattle.one_slot.specs.Sent.{Sent, IsSent}
use Rattle.one_slot.specs.Sent.Sent.{Drained, Copy, Ack, Claimed, Told}
use Rattle.one_slot.specs.Slot.{Holds, IsAtMost}
use Rattle.one_slot.specs.View.{Views}
use Rattle.node_step.specs.State.{NodeState}
use Rattle.world_run.specs.Executed.{Redirection, redirections}
use Rattle.world_run.specs.Run.{Entry, sent_by}
use Rattle.single_keyspace.specs.Handing.{newest_of, peers, planned_epoch, said_in}
use Rattle.single_keyspace.specs.Slots.{values_in, views, first_of, is_hidden}

-- what a message from one node to another says of a slot
abbrev pub Says : ℕ → ℕ → ℕ → Body → Sent Value → Type 0
Says slot from to (body.Slots (of_slots.Copy id pairs)) sent = (id.slot ≡ slot) × (sent ≡ Copy from to id.number id.copy pairs)
Says slot from to (body.Slots (of_slots.Ack id)) sent = (id.slot ≡ slot) × (sent ≡ Ack from to id.number id.copy)
Says slot from to (body.Slots (of_slots.Drained other number epoch)) sent = (other ≡ slot) × (sent ≡ Drained from to number epoch)
Says slot from to (body.Slots (of_slots.Claim runs replaced)) sent = (epoch : ℕ) × (claimed runs from slot ≡ Some (record { epoch = epoch; owner = from })) × (sent ≡ Claimed from epoch)
Says slot from to other sent = ⊥

-- the keys of a command, if the words are one
abbrev pub keys_in : Result Command CommandFault → List (List ℕ)
keys_in (Ok command) = keys_of command
keys_in (Err fault) = []

-- the first key is in the slot
abbrev pub BeginsIn : ℕ → List (List ℕ) → Type 0
BeginsIn slot [] = ⊥
BeginsIn slot (key ∷ keys) = hash_slot key ≡ slot

-- all that nodes said and told of the slot is true of it, or over
pub record IsTrueOf (past : List Entry) (top : SlotEntry) (slots : Views Value) (slot : ℕ) : Type 0 where
  pub sent : (message : Message) (sent : Sent Value) → Contains (sent_by past) message → Says slot message.from message.to message.body sent → IsSent top slots sent
  pub told : (redirection : Redirection) → Contains (redirections past) redirection → BeginsIn slot (keys_in (command_of redirection.words))
      → (by : ℕ) × IsSent top slots (Told by redirection.to redirection.number (keys_in (command_of redirection.words)))

-- a node is seen: a master that isn't out
pub record IsSeen (out : Bool) (node : NodeState) : Type 0 where
  pub is_in : out ≡ false
  pub is_master : is_hidden node ≡ false

-- a slot over all nodes, beside the one keyspace. Its holder is seen, and no table, of a hidden node neither, has a newer entry
pub record SlotStands (first : SlotEntry) (out : ℕ → Bool) (past : List Entry) (nodes : List NodeState) (one : Keyspace) (slot : ℕ) : Type 0 where
  pub top : SlotEntry
  pub holds : Holds top (views first out nodes slot) (values_in one slot)
  pub history : IsTrueOf past top (views first out nodes slot) slot
  pub holder : (node : NodeState) → slice_get nodes top.owner ≡ Some node → IsSeen (out top.owner) node
  pub tables : (number : ℕ) (node : NodeState) (entry : SlotEntry) → slice_get nodes number ≡ Some node → entry_at node.table slot ≡ Some entry → IsAtMost top entry

-- a node at its place that is seen: a master. Once it hands over, no slot moves there
pub record NodeStands (number : ℕ) (node : NodeState) : Type 0 where
  pub number_is : node.number ≡ number
  pub slots : length node.table ≡ 16384
  pub is_master : is_hidden node ≡ false
  pub rests : (replica : ℕ) → node.paused ≡ Some replica → (slot : ℕ) → move_of node.moves slot ≡ None

-- one that is hidden, a replica: no slot is its own, and none is moved by it
pub record ReplicaStands (number : ℕ) (node : NodeState) : Type 0 where
  pub number_is : node.number ≡ number
  pub slots : length node.table ≡ 16384
  pub is_one : is_hidden node ≡ true
  pub foreign : (slot : ℕ) → owner_at node.table slot ≢ Some number
  pub idle : (slot : ℕ) → move_of node.moves slot ≡ None

-- one that is out: a master that handed its slots over. It serves nothing, and no slot moves there
pub record OutStands (number : ℕ) (node : NodeState) : Type 0 where
  pub number_is : node.number ≡ number
  pub slots : length node.table ≡ 16384
  pub is_master : is_hidden node ≡ false
  pub replica : ℕ
  pub paused : node.paused ≡ Some replica
  pub idle : (slot : ℕ) → move_of node.moves slot ≡ None

abbrev pub MasterStands : Bool → ℕ → NodeState → Type 0
MasterStands true number node = OutStands number node
MasterStands false number node = NodeStands number node

-- who is out has handed over to a node that is a master now
pub record IsOut (all : Peers Handing) (number : ℕ) : Type 0 where
  pub replica : ℕ
  pub paused : (all number).paused ≡ Some replica
  pub promoted : (all replica).master ≡ None

-- a node knows the epochs of its own slots, and of its election for a handover
pub record KnowsEpochs (number : ℕ) (node : NodeState) : Type 0 where
  pub own : (slot epoch : ℕ) → entry_at node.table slot ≡ Some (record { epoch = epoch; owner = number }) → epoch ≤ node.current_epoch
  pub planned : (epoch : ℕ) → planned_epoch node.candidate ≡ Some epoch → epoch ≤ node.current_epoch

-- all nodes, and each slot
pub record WorldStands (config : ClusterConfig) (past : List Entry) (nodes : List NodeState) (one : Keyspace) : Type 0 where
  pub out : ℕ → Bool
  pub is_out : (number : ℕ) → out number ≡ true → IsOut (peers nodes) number
  pub each : (number : ℕ) (node : NodeState) → slice_get nodes number ≡ Some node → MasterStands (out number) number node ⊎ ReplicaStands number node
  pub slots : (slot : ℕ) → SlotStands (first_of config slot) out past nodes one slot
  pub handovers : (number : ℕ) → PeerStands newest_of (peers nodes) number
  pub said : (message : Message) → Contains (sent_by past) message → IsTrue newest_of (peers nodes) message.from message.to message.epoch (said_in message.body)
  pub knows : (number : ℕ) (node : NodeState) → slice_get nodes number ≡ Some node → KnowsEpochs number node
