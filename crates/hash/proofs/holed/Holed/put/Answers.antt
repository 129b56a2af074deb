use Rattle.std.proofs.Common.{rules, ◌≡◌, true, false}
use Rattle.std.specs.Prelude.{is_none}
use Rattle.hash.proofs.HoleLemmas.{count_set}
use Rattle.hash.proofs.holed.Holed.put.Goals as goal

pub invariant_of-self-then-is_none : goal.invariant_of-self-then-is_none
invariant_of-self-then-is_none c =
    let none : is_none c.in_ok-old.old ≡ true = search rules in
    count_set _ _ c.args.field c.args.value c.in_ok-old.old c.self.inside.len true c.self.invariant c.in_ok-old.ensures.pairs c.in_ok-old.ensures.old none

pub invariant_of-self-else-is_none : goal.invariant_of-self-else-is_none
invariant_of-self-else-is_none c =
    let none : is_none c.in_ok-old.old ≡ false = search rules in
    count_set _ _ c.args.field c.args.value c.in_ok-old.old c.self.inside.len false c.self.invariant c.in_ok-old.ensures.pairs c.in_ok-old.ensures.old none
