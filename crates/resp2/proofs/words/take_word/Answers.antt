use Rattle.resp2.proofs.ReaderSteps.{takes_word}
use Rattle.resp2.proofs.words.take_word.Goals as goal

pub returns-clause-takes : goal.returns-clause-takes
returns-clause-takes c =
    takes_word _ _ _ _ _ _ _ _ _ c.in-Some.is c.in_ok-known.ensures.known c.in_ok-known.ensures.len c.in_ok-known.ensures.kept c.take_body.ensures.takes
