use Rattle.node_parts.proofs.ChangeLemmas.{applied_alike}
use Rattle.step_making.proofs.making.make.Goals as goal

pub returns-clause-state : goal.returns-clause-state
returns-clause-state g c =
    let kept = c.in_ok-made.ensures in
    applied_alike c.args.node.now c.args.draft.now c.stamp.new.draft c.apply.new.node kept.epoch kept.written kept.plan kept.change kept.succession c.in_ok-apply.ensures.ok
