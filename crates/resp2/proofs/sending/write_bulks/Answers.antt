use Rattle.std.proofs.Common.{arith, ap, ◌∙◌}
use Rattle.std.proofs.lemmas.Result.{err_from_is_err_and}
use Rattle.resp_values.specs.Request.{bulk_spelling}
use Rattle.resp2.proofs.Beginnings.{begun_at}
use Rattle.resp2.proofs.sending.write_bulks.Goals as goal

pub returns-in_err-write_parts-clause-begun : goal.returns-in_err-write_parts-clause-begun
returns-in_err-write_parts-clause-begun g c =
    let p = err_from_is_err_and c.from_residual.result c.from_residual.ensures.1 in
    rw p.1
    (begun_at _ _ _ bulk_spelling c.args.words.now c.loop-word.word-index c.word-item.result _ (omega arith)
    (c.bulk.ensures ∙ ap bulk_spelling c.word-item.is) c.loop-word.invariant c.in_err-write_parts.ensures.begun)
