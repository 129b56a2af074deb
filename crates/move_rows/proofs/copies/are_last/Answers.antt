use Rattle.std.proofs.Common.{ap, ◌∙◌}
use Rattle.node_step.specs.State.{NodeState}
use Rattle.move_rows.proofs.Acknowledging.{last_if}
use Rattle.move_rows.specs.LastKeys.{are_last}
use Rattle.move_rows.proofs.copies.are_last.Goals as goal

pub returns-then-count_in_slot-gt0 : goal.returns-then-count_in_slot-gt0
returns-then-count_in_slot-gt0 g c =
    let kept = g.S.Store.contents c.node.inside.store in
    let part = g.S.Part.Store.contents c.part.result.now in
    last_if part c.args.place c.count_in_slot.result kept c.args.keys.now c.has_only.result c.count_in_slot.ensures.count c.if-count_in_slot-gt0.true c.part.ensures c.has_only.ensures
    ∙ ap (λ (node : NodeState). are_last node.keyspace c.args.place c.args.keys.now) c.node.view_is
