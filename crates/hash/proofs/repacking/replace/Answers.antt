use Rattle.std.proofs.Common.{rules, ◌≡◌, ◌≤◌, ◌+◌, ◌-◌, ◌++◌, List, ℕ, length, take, drop, refl, ap, ◌∙◌, arith}
use Rattle.hash.specs.Block.{Kept}
use Rattle.hash.specs.Packed.{word_packed}
use Rattle.hash.specs.declared.count.Count.{Count}
use Rattle.hash.specs.declared.repacking.TheConstants.{MOST_PACKED}
use Rattle.resp_values.specs.Request.{bulk_spelling}
use Rattle.std.specs.List.{slice_range}
use Rattle.hash.proofs.KeptLemmas.{replaces}
use Rattle.hash.proofs.ShortLemmas.{few}
use Rattle.hash.proofs.repacking.replace.Goals as goal

pub overflow_sub-count : goal.overflow_sub-count
overflow_sub-count c =
    let written : c.in_ok-after.after.items ≡ take c.args.place.value c.args.block.now.bytes ++ (word_packed c.args.value.now ++ drop c.args.place.end c.args.block.now.bytes) = search rules in
    let count = c.count-count.ensures in
    let fields = ap (λ (k : Count). k.fields) count in
    let size = ap (λ (k : Count). k.size) count in
    let old_size = c.short_size.ensures.size ∙ ap (λ (bytes : List ℕ). length (bulk_spelling (slice_range bytes (c.args.place.value + 1) c.args.place.end))) c.as_slice-bytes.ensures in
    let then = replaces c.args.block.now c.args.field.now c.args.value.now c.in_ok-after.after.items c.args.place _ _ c.requires.kept c.requires.lies (omega (arith, c.if-value-gt-MOST_IN_WORD.false)) written old_size refl in
    omega (arith, size, then.there)

pub overflow_add-count : goal.overflow_add-count
overflow_add-count c =
    let written : c.in_ok-after.after.items ≡ take c.args.place.value c.args.block.now.bytes ++ (word_packed c.args.value.now ++ drop c.args.place.end c.args.block.now.bytes) = search rules in
    let count = c.count-count.ensures in
    let fields = ap (λ (k : Count). k.fields) count in
    let size = ap (λ (k : Count). k.size) count in
    let old_size = c.short_size.ensures.size ∙ ap (λ (bytes : List ℕ). length (bulk_spelling (slice_range bytes (c.args.place.value + 1) c.args.place.end))) c.as_slice-bytes.ensures in
    let then = replaces c.args.block.now c.args.field.now c.args.value.now c.in_ok-after.after.items c.args.place _ _ c.requires.kept c.requires.lies (omega (arith, c.if-value-gt-MOST_IN_WORD.false)) written old_size c.short_size-2.ensures.size in
    let small : length c.in_ok-after.after.items ≤ MOST_PACKED = search rules in
    omega (arith, size, then.size, (few c.in_ok-after.after.items then.packed small).size)

pub returns-clause-ok : goal.returns-clause-ok
returns-clause-ok c =
    let written : c.in_ok-after.after.items ≡ take c.args.place.value c.args.block.now.bytes ++ (word_packed c.args.value.now ++ drop c.args.place.end c.args.block.now.bytes) = search rules in
    let count = c.count-count.ensures in
    let fields = ap (λ (k : Count). k.fields) count in
    let size = ap (λ (k : Count). k.size) count in
    let old_size = c.short_size.ensures.size ∙ ap (λ (bytes : List ℕ). length (bulk_spelling (slice_range bytes (c.args.place.value + 1) c.args.place.end))) c.as_slice-bytes.ensures in
    let then = replaces c.args.block.now c.args.field.now c.args.value.now c.in_ok-after.after.items c.args.place _ _ c.requires.kept c.requires.lies (omega (arith, c.if-value-gt-MOST_IN_WORD.false)) written old_size c.short_size-2.ensures.size in
    let is = c.in_ok-take_over.ensures.ok in
    then.keeps c.take_over.new.self (ap (λ (k : Kept). k.bytes) is) (ap (λ (k : Kept). k.count.fields) is ∙ fields) (ap (λ (k : Kept). k.count.size) is ∙ ap (λ n. n - c.short_size.result + c.short_size-2.result) size)
