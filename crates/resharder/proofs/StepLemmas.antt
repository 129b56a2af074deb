-- From the turn that is made to the run's step.
use Rattle.std.proofs.Common.{◌≡◌, ◌⊎◌, inl, inr, Ok, Err, ap, sym, subst, ◌∙◌}
use Rattle.std.specs.Prelude.{IsTrue, Result}
use Rattle.resharder.specs.State.{RunState}
use Rattle.resharder.specs.Step.{Follows, Steps, Turn, takes_memory, turn}
use Rattle.resharder.specs.Step.Turn.{Goes, Ends, Reads}
use Rattle.resharder.specs.Turns.{Does, Makes}
use Rattle.resharder.specs.declared.action.Action.{Action}
use Rattle.resharder.specs.declared.action.Action.TheVariants.{Fault}
use Rattle.resharder.specs.declared.action.Event.{Event}
use Rattle.resharder.specs.declared.deciding.Made.{Made}
use Rattle.resharder.specs.declared.fault.ReshardFault.{ReshardFault}
use Rattle.resharder.specs.declared.fault.ReshardFault.TheVariants.{Memory}
use Rattle.resharder.specs.declared.plan.Plan.{Plan}
use Rattle.resharder.specs.declared.stage.Stage.{Stage}
use Rattle.resharder.specs.declared.stage.Stage.TheVariants.{Over}

-- what the run waits for behind the turn, and what it wants done
abbrev pub stage_in : Result Made ReshardFault → Stage
stage_in (Ok made) = made.stage
stage_in (Err fault) = Over

abbrev pub action_in : Result Made ReshardFault → Action
action_in (Ok made) = made.action
action_in (Err fault) = Fault fault

follows : (made : Turn) (old new : RunState) (result : Result Made ReshardFault) (action : Action) → Does made result → action ≡ action_in result → new ≡ record old { stage = stage_in result } → Follows made old action new
follows (Goes stage done) old new result action does acts is = (is ∙ ap (λ (r : Result Made ReshardFault). record old { stage = stage_in r }) does, acts ∙ ap action_in does)
follows (Ends fault) old new result action does acts is = (is ∙ ap (λ (r : Result Made ReshardFault). record old { stage = stage_in r }) does, acts ∙ ap action_in does)
follows (Reads made) old new result action does acts is = follows made old new result action does acts is

step : (made : Turn) (old new : RunState) (result : Result Made ReshardFault) (action : Action) → Makes made result → action ≡ action_in result → new ≡ record old { stage = stage_in result }
    → Follows made old action new ⊎ (IsTrue (takes_memory made) × Follows (Ends Memory) old action new)
step made old new result action (inl does) acts is = inl (follows made old new result action does acts is)
step made old new result action (inr refused) acts is = inr (refused.0, follows (Ends Memory) old new result action refused.1 acts is)

-- the run steps as the turn is made
pub steps : (old : RunState) (plan : Plan) (stage : Stage) (event : Event) (result : Result Made ReshardFault) (action : Action) (new : RunState) → Makes (turn plan stage event) result
    → old ≡ record { plan = plan; stage = stage } → action ≡ action_in result → new ≡ record { plan = plan; stage = stage_in result } → Steps old event action new
steps old plan stage event result action new makes was acts is =
    subst (λ (o : RunState). Steps o event action new) (sym was) (step (turn plan stage event) (record { plan = plan; stage = stage }) new result action makes acts is)
