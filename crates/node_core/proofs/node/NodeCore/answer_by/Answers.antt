use Rattle.std.proofs.Common.{subst}
use Rattle.node_core.proofs.StepLemmas.{answer_is_step}
use Rattle.node_step.specs.State.{NodeState}
use Rattle.node_step.specs.Step.{NodeStep}
use Rattle.node_step.specs.declared.event.Event.TheVariants.{Request}
use Rattle.node_core.proofs.node.NodeCore.answer_by.Goals as goal

pub returns-clause-step : goal.returns-clause-step
returns-clause-step g c =
    subst (λ (node : NodeState). NodeStep c.args.ticket node (Request c.args.conn c.args.words.now) c.in_ok-make.field-0.0 c.make.new.node) c.self.view_is
    (answer_is_step c.args.ticket c.self.inside.parts c.args.conn c.args.words.now c.request.new.draft c.in_ok-make.field-0.0 c.make.new.node c.in_ok-request.ensures.draft
    c.in_ok-make.ensures.outputs c.in_ok-make.ensures.state)
