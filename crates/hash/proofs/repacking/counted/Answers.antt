use Rattle.std.proofs.Common.{rules, ◌≡◌, ◌∷◌, ap, length, arith}
use Rattle.hash.proofs.ShortLemmas.{counts_on, few}
use Rattle.hash.proofs.repacking.counted.Goals as goal

pub overflow_add-fields : goal.overflow_add-fields
overflow_add-fields c =
    let next : c.loop-field.walk ≡ (c.in-Some.field.now, c.in-Some.value.now) ∷ c.next_pair.new.self = search rules in
    omega (arith, ap length next, c.loop-field.invariant.many, (few c.args.bytes.now c.requires.packed c.requires.small).fields)

pub overflow_add-size-in-Some : goal.overflow_add-size-in-Some
overflow_add-size-in-Some c =
    let next : c.loop-field.walk ≡ (c.in-Some.field.now, c.in-Some.value.now) ∷ c.next_pair.new.self = search rules in
    omega (arith, (counts_on c.args.bytes.now _ _ _ c.loop-field.size _ _ _ _ c.requires.packed c.requires.small c.loop-field.invariant next c.short_size.ensures.size c.short_size-in-Some.ensures.size).fits)
