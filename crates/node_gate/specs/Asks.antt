-- What is asked of a node through one gate.
use Rattle.std.specs.Prelude.{Option, Result, Ok, Err, ⊤}
use Rattle.connections.specs.declared.conn.Conn.{Conn}
use Rattle.node_step.specs.declared.event.Event.{Event}
use Rattle.node_step.specs.declared.event.Event.TheVariants.{Deliver}
use Rattle.step_fault.specs.declared.fault.StepFault.{StepFault}
use Rattle.node_step.specs.declared.outputs.Outputs.{Outputs}
use Rattle.resp_values.specs.declared.reply.Reply.{Reply}

-- the event is the node's own: no message that arrives
abbrev pub IsOwn : Event → Type 0
IsOwn (Deliver message) = ⊥
IsOwn event = ⊤

-- what was asked of a node, and what came of it: a step for an event, or the reply that a connection waited for
pub data Asked : Type 0 where
  asking : Event → Result Outputs StepFault → Asked
  waiting : Conn → Option Reply → Asked

-- what came of an event, by what the asker sees of the step
abbrev pub outcome_of : {A : Type 0} → (A → Outputs) → Result A StepFault → Result Outputs StepFault
outcome_of gave (Ok answer) = Ok (gave answer)
outcome_of gave (Err fault) = Err fault
