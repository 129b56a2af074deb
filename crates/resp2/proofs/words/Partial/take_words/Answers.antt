use Rattle.std.proofs.Common.{◌≡◌, true, false, refl, arith, rules}
use Rattle.std.proofs.lemmas.Result.{err_from_is_err_and}
use Rattle.resp2.proofs.ReaderSteps.{all_taken, fails_on, goes_on, none_left_of, taken_behind, waits_on, word_wants}
use Rattle.resp2.proofs.words.Partial.take_words.Goals as goal

pub words-preserved : goal.words-preserved
words-preserved c =
    let is : c.in_ok-take_word.field-0 ≡ true = (search rules) in
    goes_on _ _ _ _ _ _ c.words.invariant (omega (arith, c.words-test.true)) (taken_behind _ _ _ _ _ _ is c.reserve.ensures.items c.in_ok-take_word.ensures.takes)
    (none_left_of _ _ is c.in_ok-take_word.ensures.next) refl c.take_word.ensures.shrinks

pub returns-then-not-branch-clause-takes : goal.returns-then-not-branch-clause-takes
returns-then-not-branch-clause-takes c =
    let is : c.in_ok-take_word.field-0 ≡ false = (search rules) in
    waits_on _ _ _ _ c.words.invariant (omega (arith, c.words-test.true)) (word_wants _ _ _ _ _ is c.in_ok-take_word.ensures.takes)

pub returns-in_err-take_word-clause-takes : goal.returns-in_err-take_word-clause-takes
returns-in_err-take_word-clause-takes c =
    let fault = err_from_is_err_and c.from_residual-in_err-take_word.result c.from_residual-in_err-take_word.ensures.1 in
    rw (fault.1, fault.2) (fails_on _ _ _ _ _ c.words.invariant (omega (arith, c.words-test.true)) c.in_err-take_word.ensures.takes.0)

pub returns-clause-takes : goal.returns-clause-takes
returns-clause-takes c = all_taken _ _ _ _ c.words.invariant c.words-test.false
