use Rattle.std.proofs.Common.{arith}
use Rattle.std.proofs.lemmas.Bool.Decides.{nat_tests}
use Rattle.resharder.proofs.fitting.is_request.Goals as goal

pub returns-then-count-le-MOST_WORDS : goal.returns-then-count-le-MOST_WORDS
returns-then-count-le-MOST_WORDS c =
    let header = c.header_len.ensures.len 42 in
    grind (arith, nat_tests)
