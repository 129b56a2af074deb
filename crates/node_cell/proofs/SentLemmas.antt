-- Messages of a step were sent by a node of the cluster.
use Rattle.std.proofs.Common.{◌≡◌, ◌<◌, ℕ, true, List, All, length, subst}
use Rattle.std.proofs.lemmas.List.Elements.{All-contains_itself}
use Rattle.cluster_config.specs.Config.{ClusterConfig}
use Rattle.node_step.specs.State.{NodeState, first_state}
use Rattle.node_step.specs.Step.{NodeStep}
use Rattle.node_step.specs.declared.event.Event.{Event}
use Rattle.node_step.specs.declared.outputs.Outputs.{Outputs}
use Rattle.cell_parts.specs.Journal.{IsHistory, IsReachable, IsSent, comes_in_time}
use Rattle.cell_parts.specs.declared.entry.Entry.{Entry}

-- the state of a cell of the cluster is one that a node of it comes to
pub comes_to : (config own : ClusterConfig) (node : ℕ) (journal : List Entry) (state : NodeState) → own ≡ config → node < length own.nodes
    → IsHistory (first_state own node) journal state → IsReachable config journal state
comes_to config own node journal state same is_node history =
    subst (λ c. IsReachable c journal state) same (record { number = node; is_node = is_node; history = history })

-- each message of a step is one that a node of the cluster sent, where the step is from a state that a node of it comes to
pub sent_by_step : (config : ClusterConfig) (journal : List Entry) (old new : NodeState) (ticket : ℕ) (event : Event) (outputs : Outputs)
    → IsReachable config journal old → comes_in_time ticket event ≡ true → NodeStep ticket old event outputs new → All (IsSent config) outputs.sent
sent_by_step config journal old new ticket event outputs reachable in_time step =
    λ place message is_there. record {
      journal = journal;
      ticket = ticket;
      old = old;
      new = new;
      event = event;
      outputs = outputs;
      reachable = reachable;
      in_time = in_time;
      step = step;
      sent = All-contains_itself outputs.sent place message is_there;
    }
