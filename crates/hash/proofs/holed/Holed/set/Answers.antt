use Rattle.std.proofs.Common.{rules, ◌≡◌, true, false}
use Rattle.std.specs.Prelude.{is_none}
use Rattle.hash.proofs.HoleLemmas.{count_set}
use Rattle.hash.proofs.holed.Holed.set.Goals as goal

pub invariant_of-self : goal.invariant_of-self
invariant_of-self c =
    let none : is_none c.set-old.result ≡ true = search rules in
    count_set _ _ c.args.field c.args.value c.set-old.result c.self.inside.len true c.self.invariant c.set-old.ensures.pairs c.set-old.ensures.old none

pub invariant_of-self-else-is_none : goal.invariant_of-self-else-is_none
invariant_of-self-else-is_none c =
    let none : is_none c.set-old.result ≡ false = search rules in
    count_set _ _ c.args.field c.args.value c.set-old.result c.self.inside.len false c.self.invariant c.set-old.ensures.pairs c.set-old.ensures.old none
