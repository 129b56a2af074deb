-- The nodes of a world (ours).
use Rattle.std.specs.Prelude.{◌≡◌, ◌++◌, ◌&&◌, ℕ, nat_lt, not, Bool, true, false, List, [], length, replicate, reverse, Some, slice_get, slice_index_or}
use Rattle.bus.specs.declared.message.Message.{Message}
use Rattle.cluster_config.specs.Config.{ClusterConfig}
use Rattle.node_step.specs.State.{NodeState}
use Rattle.world_run.specs.Executed.{KeepsAsking}
use Rattle.world_run.specs.Run.{Entry, Goes, first_nodes, sent_by}

-- the nodes by their numbers, and which of them were stopped; all messages that were sent, and what the nodes did, in order
pub record RunView : Type 0 where
  pub nodes : List NodeState
  pub stopped : List Bool
  pub sent : List Message
  pub entries : List Entry

-- ---- the start

abbrev pub first_run : ClusterConfig → RunView
first_run config = record {
  nodes = first_nodes config;
  stopped = replicate (length config.nodes) false;
  sent = [];
  entries = [];
}

-- the nodes have the configuration of the cluster
abbrev pub HaveConfig : ClusterConfig → List NodeState → Type 0
HaveConfig config nodes = (number : ℕ) (node : NodeState) → slice_get nodes number ≡ Some node → node.config ≡ config

-- what the nodes did leads from the cluster's start to them
abbrev pub IsRunOf : ClusterConfig → RunView → Type 0
IsRunOf config run = Goes [] (first_nodes config) run.entries run.nodes

-- ---- nodes that stopped

-- the node is there, and wasn't stopped
abbrev pub is_up : RunView → ℕ → Bool
is_up run node = nat_lt node (length run.nodes) && not (slice_index_or run.stopped node true)

-- ---- how runs go on

-- further entries lead from the old nodes to the new ones, and clients keep to the asking rule in them
pub record GoesOn (old new : RunView) : Type 0 where
  pub entries : List Entry
  pub added : new.entries ≡ old.entries ++ entries
  pub goes : Goes (reverse old.entries) old.nodes entries new.nodes
  pub keeps : KeepsAsking (reverse old.entries) entries

-- the messages are those that the nodes sent
abbrev pub RemembersSent : RunView → Type 0
RemembersSent run = run.sent ≡ sent_by run.entries
