use Rattle.std.proofs.Common.{◌∙◌}
use Rattle.std.proofs.lemmas.Result.{err_from_is_err_and, on_err_weaker}
use Rattle.resp2.proofs.Beginnings.{request_begun, words_begun}
use Rattle.resp2.proofs.sending.write_words.Goals as goal

pub returns-in_err-write_parts-clause-begun : goal.returns-in_err-write_parts-clause-begun
returns-in_err-write_parts-clause-begun g c =
    let p = err_from_is_err_and c.from_residual.result c.from_residual.ensures.1 in
    rw p.1
    (request_begun _ _ c.as_bytes.result.now _ _ (c.as_bytes.ensures.value ∙ c.format.ensures.text) c.as_slice-words.ensures.words c.in_err-write_parts.ensures.begun)

pub returns-clause-begun : goal.returns-clause-begun
returns-clause-begun g c =
    on_err_weaker c.write_bulks.result (λ begun.
    words_begun _ _ _ c.as_bytes.result.now _ _ (c.as_bytes.ensures.value ∙ c.format.ensures.text) c.as_slice-words.ensures.words c.in_ok-write_parts.ensures.written begun)
    c.write_bulks.ensures.begun
