-- The keyspace once a plan is committed, by what the plan has.
use Rattle.std.proofs.Common.{◌≡◌, Some, None, ap, sym, ◌∙◌}
use Rattle.std.specs.FinMap as map
use Rattle.keyspace.proofs.Applied.{applied_empty}
use Rattle.keyspace.specs.Keyspace.{Keyspace}
use Rattle.keyspace.specs.Changes.{Changes, applied}
use Rattle.keyspace.specs.Plan.{committed, with_last, with_step}
use Rattle.keyspace.specs.declared.plans.LastStep.{LastStep}
use Rattle.keyspace.specs.declared.plans.Plan.{Plan}

-- no last step is planned
pub committed_values : (m : Keyspace) (plan : Plan) → plan.last ≡ None → committed m plan ≡ applied m plan.values
unfolding committed
committed_values m plan none = ap (with_last (applied m plan.values)) none

-- one is planned
pub committed_step : (m : Keyspace) (plan : Plan) (step : LastStep) → plan.last ≡ Some step → committed m plan ≡ with_step (applied m plan.values) step
unfolding committed
committed_step m plan step some = ap (with_last (applied m plan.values)) some

-- the step stands alone
pub step_alone : (m : Keyspace) (values : Changes) (step : LastStep) → values ≡ map.empty → with_step m step ≡ with_step (applied m values) step
step_alone m values step empty = ap (λ n. with_step n step) (sym (ap (applied m) empty ∙ applied_empty m))
