use Rattle.std.proofs.Common.{◌+◌, ap, subst, sym, length, arith}
use Rattle.resp_values.specs.Request.{IsRequest, bulk_spelling}
use Rattle.resp_values.proofs.Spellings.{bulks_len-front, bulks_len-more, request_len}
use Rattle.repl_stream.proofs.lengths.spelled_len.Goals as goal

pub loop-word-init : goal.loop-word-init
loop-word-init c =
    let header = c.header_len-len.ensures.len 42 in
    omega (arith, header)

pub overflow_add-len : goal.overflow_add-len
overflow_add-len c =
    let words = c.as_slice-words.result.now in
    let request = subst IsRequest (sym c.as_slice-words.ensures.words) c.as_slice-words.ensures.request in
    let more = bulks_len-more words c.loop-word.word-index c.word-item.result c.loop-word-test.true in
    omega (
      arith,
      c.loop-word.invariant,
      c.bulk_len-len.ensures,
      more,
      ap (λ w. length (bulk_spelling w)) c.word-item.is,
      bulks_len-front (c.loop-word.word-index + 1) words,
      request_len words,
      request.limits.all,
    )

pub loop-word-preserved : goal.loop-word-preserved
loop-word-preserved c =
    omega (arith, c.loop-word.invariant, c.bulk_len-len.ensures, bulks_len-more c.as_slice-words.result.now c.loop-word.word-index c.word-item.result c.loop-word-test.true, ap (λ w. length (bulk_spelling w)) c.word-item.is)
