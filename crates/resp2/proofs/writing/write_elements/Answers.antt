use Rattle.std.proofs.Common.{arith, ap, ◌∙◌}
use Rattle.std.proofs.lemmas.Result.{err_from_is_err_and}
use Rattle.resp_values.specs.Reply.{element_spelling}
use Rattle.resp2.proofs.Beginnings.{begun_at}
use Rattle.resp2.proofs.writing.write_elements.Goals as goal

pub returns-in_err-write_parts-clause-begun : goal.returns-in_err-write_parts-clause-begun
returns-in_err-write_parts-clause-begun g c =
    let p = err_from_is_err_and c.from_residual.result c.from_residual.ensures.1 in
    rw p.1
    (begun_at _ _ _ element_spelling c.args.elements.now c.loop-element.element-index c.element-item.result _ (omega arith)
    (c.parts_of.ensures ∙ ap element_spelling c.element-item.is) c.loop-element.invariant c.in_err-write_parts.ensures.begun)
