use Rattle.std.proofs.Common.{◌∙◌}
use Rattle.audit.proofs.Parts.{is_part}
use Rattle.audit.proofs.part.Part.of.Goals as goal

pub invariant_of-result : goal.invariant_of-result
invariant_of-result g c =
    let finished = c.finish-node.ensures in
    is_part _ _ _ _ _ _ _ c.args.cell.state c.finish-node.result.3 _ finished.cluster finished.parts.1 (c.into_entries.ensures ∙ finished.parts.2) finished.history finished.rises finished.number finished.seat.0 finished.seat.1 finished.seat.2
