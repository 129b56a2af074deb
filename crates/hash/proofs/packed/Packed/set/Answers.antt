use Rattle.std.proofs.Common.{rules, ◌≡◌, ◌+◌, ◌-◌, ◌++◌, List, ℕ, Some, length, take, drop, ap, subst, ◌∙◌}
use Rattle.hash.specs.Pairs.{Pairs, field_changed}
use Rattle.hash.specs.Places.{LiesAt}
use Rattle.hash.specs.declared.packing.Place.{Place}
use Rattle.hash.proofs.KeptLemmas.{overwritten_kept}
use Rattle.hash.proofs.packed.Packed.set.Goals as goal

lies_in : (bytes same field the_field : List ℕ) (place : Place) → bytes ≡ same → field ≡ the_field → LiesAt bytes field place → LiesAt same the_field place
lies_in bytes same field the_field place is is_too lies = subst (λ (l : List ℕ). LiesAt same l place) is_too (subst (λ (l : List ℕ). LiesAt l field place) is lies)

pub invariant_of-self : goal.invariant_of-self
invariant_of-self c =
    let lies : LiesAt c.self.inside.block.bytes c.args.field.now c.in-Some.place = lies_in _ _ _ _ _ c.as_slice.ensures c.as_slice-field.ensures c.in-Some.ensures.some in
    let same : c.in-Some.place.end - (c.in-Some.place.value + 1) ≡ length c.args.value.now = search rules in
    let written : c.write.new.self.bytes ≡ take (c.in-Some.place.value + 1) c.self.inside.block.bytes ++ (c.args.value.now ++ drop (c.in-Some.place.value + 1 + length c.args.value.now) c.self.inside.block.bytes) = search rules in
    let then = overwritten_kept c.self.inside.block c.write.new.self c.args.field.now c.args.value.now c.in-Some.place c.self.invariant lies same written c.write.ensures.count in
    then.is_kept

pub returns-in-Some-clause-ok : goal.returns-in-Some-clause-ok
returns-in-Some-clause-ok c =
    let lies : LiesAt c.self.inside.block.bytes c.args.field.now c.in-Some.place = lies_in _ _ _ _ _ c.as_slice.ensures c.as_slice-field.ensures c.in-Some.ensures.some in
    let same : c.in-Some.place.end - (c.in-Some.place.value + 1) ≡ length c.args.value.now = search rules in
    let written : c.write.new.self.bytes ≡ take (c.in-Some.place.value + 1) c.self.inside.block.bytes ++ (c.args.value.now ++ drop (c.in-Some.place.value + 1 + length c.args.value.now) c.self.inside.block.bytes) = search rules in
    let then = overwritten_kept c.self.inside.block c.write.new.self c.args.field.now c.args.value.now c.in-Some.place c.self.invariant lies same written c.write.ensures.count in
    then.same ∙ ap (λ (pairs : Pairs). field_changed pairs c.args.field.now (Some c.args.value.now)) c.self.view_is
