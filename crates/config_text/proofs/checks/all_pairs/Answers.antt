use Rattle.std.proofs.Common.{sym, ◌∙◌, refl, arith}
use Rattle.std.proofs.iter.Next.{says_at_two}
use Rattle.cluster_config.specs.Config.{all_pairs}
use Rattle.config_text.proofs.PairLemmas.{passes_here, fails_here}
use Rattle.config_text.proofs.checks.all_pairs.Goals as goal

pub returns-then-not-test : goal.returns-then-not-test
returns-then-not-test g c passes does =
    fails_here (passes c.in-Some.item.now) c.in-Some.later.now c.loop-other.other-index c.other-item.result (all_pairs passes c.in-Some.later.now) _
    (c.loop-other.invariant passes does) (omega arith) c.other-item.is (sym (does _ _ _ (says_at_two g.F.Fn c.test.ensures refl)) ∙ c.if-not-test.true)

pub loop-other-preserved : goal.loop-other-preserved
loop-other-preserved g c passes does =
    passes_here (passes c.in-Some.item.now) c.in-Some.later.now c.loop-other.other-index c.other-item.result (all_pairs passes c.in-Some.later.now) _
    (c.loop-other.invariant passes does) (omega arith) c.other-item.is (sym (does _ _ _ (says_at_two g.F.Fn c.test.ensures refl)) ∙ c.if-not-test.false)
