use Rattle.std.proofs.Common.{◌≡◌, rules, subst, Option, IfOk}
use Rattle.world.specs.declared.step.Step.{Step}
use Rattle.simulator.proofs.Steps.{step_read}
use Rattle.simulator.proofs.script.step_in.Goals as goal

pub returns : goal.returns
returns c =
    subst (λ (of : Option Step). IfOk c.step_of.result (λ step. step ≡ of))
    (step_read c.args.line.now c.split_word.result.0.now c.split_word.result.1 c.in_default-Some.arguments (search rules) c.split_word.ensures.words c.in_default-Some.is-1)
    (search rules)
