-- What a node of a cluster may answer, and refuse.
use Rattle.std.specs.Prelude.{◌≡◌, ◌≤◌, ◌^◌, ◌⊎◌, List, None, Some, Err, Ok, length, ⊤}
use Rattle.cluster_config.specs.Config.{ClusterConfig}
use Rattle.connections.specs.declared.conn.Conn.{Conn}
use Rattle.node_gate.specs.Asks.{Asked}
use Rattle.node_gate.specs.Asks.Asked.{asking, waiting}
use Rattle.node_step.specs.Numbers.{NoNumberLeft}
use Rattle.node_step.specs.State.{NodeState}
use Rattle.node_step.specs.Step.{NodeStep}
use Rattle.node_step.specs.declared.event.Event.{Event}
use Rattle.step_fault.specs.declared.fault.StepFault.{StepFault}
use Rattle.step_fault.specs.declared.fault.StepFault.TheVariants.{Memory, Exhausted}
use Rattle.node_step.specs.declared.outputs.Outputs.{Outputs}
use Rattle.cell_parts.specs.Journal.{IsGiven, IsReachable}
use Rattle.cell_parts.specs.declared.entry.Entry.{Entry}
use Rattle.resp_values.specs.declared.reply.Reply.{Reply}

-- these are the outputs of a step for the event, from a state that a node of the cluster comes to
pub record MayAnswer (config : ClusterConfig) (event : Event) (outputs : Outputs) : Type 0 where
  pub journal : List Entry
  pub old : NodeState
  pub new : NodeState
  pub reachable : IsReachable config journal old
  pub step : NodeStep outputs.ticket old event outputs new

-- numbers run out at a node of the cluster: in a state that it comes to the event finds no next one, or it has drawn all of its tickets
pub record RunsOut (config : ClusterConfig) (event : Event) : Type 0 where
  pub journal : List Entry
  pub state : NodeState
  pub reachable : IsReachable config journal state
  pub reason : NoNumberLeft state event ⊎ (2 ^ 48 ≤ length journal)

-- why a node of the cluster refuses the event: memory is refused, or numbers run out
abbrev pub MayRefuse : ClusterConfig → Event → StepFault → Type 0
MayRefuse config event fault = (fault ≡ Memory) ⊎ ((fault ≡ Exhausted) × RunsOut config event)

-- a step of a node of the cluster gave this reply to a connection that waited
pub record MayGive (config : ClusterConfig) (conn : Conn) (reply : Reply) : Type 0 where
  pub journal : List Entry
  pub state : NodeState
  pub reachable : IsReachable config journal state
  pub given : IsGiven journal (record { conn = conn; reply = reply })

-- what may come of that at a node of the cluster
abbrev pub MayCome : ClusterConfig → Asked → Type 0
MayCome config (asking event (Ok outputs)) = MayAnswer config event outputs
MayCome config (asking event (Err fault)) = MayRefuse config event fault
MayCome config (waiting conn (Some reply)) = MayGive config conn reply
MayCome config (waiting conn None) = ⊤

-- what is seen so of a value stays as it was
abbrev pub Keeps : {A B : Type 0} → (A → B) → A → A → Type 0
Keeps seen old new = seen new ≡ seen old
