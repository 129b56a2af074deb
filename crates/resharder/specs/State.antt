-- What a run knows.
use Rattle.resharder.specs.declared.plan.Plan.{Plan}
use Rattle.resharder.specs.declared.stage.Stage.{Stage}
use Rattle.resharder.specs.declared.stage.Stage.TheVariants.{Begins}

-- what it is to do, and what it waits for
pub record RunState : Type 0 where
  pub plan : Plan
  pub stage : Stage

-- one that has not begun
abbrev pub first_state : Plan → RunState
first_state plan = record { plan = plan; stage = Begins }
