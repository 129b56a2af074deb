use Rattle.std.proofs.Common.{ap, length, arith}
use Rattle.resp_values.proofs.Spellings.{bulk_len}
use Rattle.resp_values.specs.Request.{header_spelling}
use Rattle.resharder.proofs.fitting.bulk_len.Goals as goal

pub returns-clause-len : goal.returns-clause-len
returns-clause-len c = λ word is. omega (arith, is, c.header_len.ensures.len 36, ap (λ n. length (header_spelling 36 n)) is, bulk_len word)
