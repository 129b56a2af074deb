use Rattle.std.proofs.Common.{sym, subst, ◌∙◌}
use Rattle.step_making.proofs.HalfLemmas.{both_halves}
use Rattle.step_making.proofs.applying.change_and_write.Goals as goal
use Rattle.node_parts.specs.Becomes.{CanBeMade}
use Rattle.node_parts.specs.Making.{GoesOn, IsMade}
use Rattle.node_step.specs.State.{NodeState, kept_in}

pub returns-clause-ok : goal.returns-clause-ok
returns-clause-ok g c =
    let plan = c.args.plan.now in
    let change = c.args.change.now in
    let bytes = c.args.written.now.bytes in
    subst (λ (node : NodeState). IsMade node plan change bytes c.finish.new.node) c.node.view_is
    (both_halves _ c.finish.new.node plan _ c.begin.new.moves c.write.new.stream.stream change bytes
    (subst (λ (node : NodeState). CanBeMade node plan change) (sym c.node.view_is) c.requires.change) c.in_ok-begin.ensures.begun
    (subst (λ stream. GoesOn (kept_in c.node.inside.config) bytes stream c.write.new.stream.stream) c.in_ok-make_room.ensures.stream
    (subst (λ kept. GoesOn kept bytes c.make_room.new.stream.stream c.write.new.stream.stream) (c.make_room.ensures.keeps ∙ c.node.invariant.1) c.write.ensures.goes_on)) c.finish.ensures)
