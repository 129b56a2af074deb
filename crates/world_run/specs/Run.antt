-- A run of a cluster: steps of its nodes, one after another, over a network that loses, repeats and delays messages (ours: the Redis
-- Cluster specification has no runs).
use Rattle.std.specs.Prelude.{◌≡◌, ℕ, List, [], ◌∷◌, map, length, Contains, Some, slice_get, slice_set}
use Rattle.std.specs.List.{flat_map, range_with_len}
use Rattle.bus.specs.declared.message.Message.{Message}
use Rattle.cluster_config.specs.Config.{ClusterConfig}
use Rattle.node_step.specs.State.{NodeState, first_state}
use Rattle.node_step.specs.Step.{NodeStep}
use Rattle.node_step.specs.declared.event.Event.{Event}
use Rattle.node_step.specs.declared.event.Event.TheVariants.{Open, Close, Request, Deliver, Tick}
use Rattle.node_step.specs.declared.outputs.Outputs.{Outputs}

-- what a node did under a ticket: a step, or nothing
pub data Deed : Type 0 where
  Made : Event → Outputs → Deed
  Skipped : Deed

-- an entry of a run
pub record Entry : Type 0 where
  pub node : ℕ
  pub ticket : ℕ
  pub deed : Deed

-- ---- the network

-- the messages that were sent
abbrev pub sent_in : Deed → List Message
sent_in (Made event outputs) = outputs.sent
sent_in Skipped = []

abbrev pub sent_by : List Entry → List Message
sent_by entries = flat_map (λ (entry : Entry). sent_in entry.deed) entries

-- a message that arrives was sent before; it may arrive late, again, or never
abbrev pub MayHappen : List Entry → Event → Type 0
MayHappen past (Deliver message) = Contains (sent_by past) message
MayHappen past Open = Unit {0}
MayHappen past (Close conn) = Unit {0}
MayHappen past (Request conn words) = Unit {0}
MayHappen past Tick = Unit {0}

-- ---- the run

-- what a node did leads it from a state to the next
abbrev pub Leads : List Entry → ℕ → NodeState → Deed → NodeState → Type 0
Leads past ticket before (Made event outputs) after = MayHappen past event × NodeStep ticket before event outputs after
Leads past ticket before Skipped after = after ≡ before

-- an entry leads from the states of all nodes to the next
pub record WorldStep (past : List Entry) (old : List NodeState) (entry : Entry) (new : List NodeState) : Type 0 where
  pub before : NodeState
  pub after : NodeState
  pub was : slice_get old entry.node ≡ Some before
  pub leads : Leads past entry.ticket before entry.deed after
  pub is : new ≡ slice_set old entry.node after

-- further entries, one after another, behind those of the past, of which the newest stands first
abbrev pub Goes : List Entry → List NodeState → List Entry → List NodeState → Type 0
Goes past old [] new = new ≡ old
Goes past old (entry ∷ entries) new = (next : List NodeState) × WorldStep past old entry next × Goes (entry ∷ past) next entries new

-- the nodes of a cluster as they begin
abbrev pub first_nodes : ClusterConfig → List NodeState
first_nodes config = map (first_state config) (range_with_len 0 (length config.nodes))

-- a run of the cluster from its start
pub record IsRun (config : ClusterConfig) (entries : List Entry) : Type 0 where
  pub last : List NodeState
  pub goes : Goes [] (first_nodes config) entries last
