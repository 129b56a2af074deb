use Rattle.std.proofs.Common.{ap, length, arith}
use Rattle.resp_values.specs.Request.{bulk_spelling}
use Rattle.resp_values.proofs.Spellings.{bulks_len-front, bulks_len-more, request_len}
use Rattle.resp_values.proofs.words.fit_in_request.Goals as goal

pub loop-word-init : goal.loop-word-init
loop-word-init c =
    let header = c.header_len-len.ensures.len 42 in
    omega (arith, header)

pub returns-then-len-gt-MOST_REQUEST_BYTES-clause-not : goal.returns-then-len-gt-MOST_REQUEST_BYTES-clause-not
returns-then-len-gt-MOST_REQUEST_BYTES-clause-not c =
    omega (arith, c.loop-word.invariant, c.if-len-gt-MOST_REQUEST_BYTES.true, bulks_len-front c.loop-word.word-index c.args.words.now, request_len c.args.words.now)

pub loop-word-preserved : goal.loop-word-preserved
loop-word-preserved c =
    omega (arith, c.loop-word.invariant, c.bulk_len-len.ensures.len, bulks_len-more c.args.words.now c.loop-word.word-index c.word-item.result c.loop-word-test.true, ap (λ w. length (bulk_spelling w)) c.word-item.is)
