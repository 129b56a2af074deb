use Rattle.std.proofs.Common.{◌∙◌, ap, length, arith}
use Rattle.resp_values.proofs.Spellings.{bulk_len}
use Rattle.resp_values.specs.Request.{header_spelling}
use Rattle.repl_stream.proofs.lengths.bulk_len.Goals as goal

pub returns : goal.returns
returns c =
    let header = c.header_len.ensures.len 36 ∙ ap (λ n. length (header_spelling 36 n)) c.len.ensures in
    omega (arith, header, c.len-2.ensures, bulk_len c.args.word.now)
