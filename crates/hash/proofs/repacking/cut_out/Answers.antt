use Rattle.std.proofs.Common.{◌+◌, ◌-◌, ◌++◌, List, ℕ, length, take, drop, refl, sym, ap, subst, ◌∙◌, arith}
use Rattle.resp_values.specs.Request.{bulk_spelling}
use Rattle.std.specs.List.{slice_range}
use Rattle.hash.specs.Block.{Kept}
use Rattle.hash.specs.Packed.{IsShortWord}
use Rattle.hash.specs.declared.count.Count.{Count}
use Rattle.hash.proofs.KeptLemmas.{loses, short_field}
use Rattle.hash.proofs.ShortLemmas.{short_there}
use Rattle.hash.proofs.repacking.cut_out.Goals as goal

pub short_size-requires : goal.short_size-requires
short_size-requires c = short_field _ c.args.field.now _ c.requires.kept.packed.short c.requires.lies.value

pub short_size-requires-2 : goal.short_size-requires-2
short_size-requires-2 c =
    subst (λ (bytes : List ℕ). IsShortWord (slice_range bytes (c.args.place.value + 1) c.args.place.end)) (sym c.as_slice.ensures)
    (short_there _ c.args.field.now _ c.requires.kept.packed.short c.requires.lies.value)

pub overflow_sub-count-2 : goal.overflow_sub-count-2
overflow_sub-count-2 c =
    let size = ap (λ (k : Count). k.size) c.count-count.ensures in
    let then = loses c.args.block.now c.args.field.now (take c.args.place.at c.args.block.now.bytes ++ drop c.args.place.end c.args.block.now.bytes) c.args.place _ _ c.requires.kept c.requires.lies refl c.short_size.ensures.size (c.short_size-2.ensures.size ∙ ap (λ (bytes : List ℕ). length (bulk_spelling (slice_range bytes (c.args.place.value + 1) c.args.place.end))) c.as_slice.ensures) in
    omega (arith, size, then.there)

pub returns : goal.returns
returns c =
    let size = ap (λ (k : Count). k.size) c.count-count.ensures in
    let then = loses c.args.block.now c.args.field.now (take c.args.place.at c.args.block.now.bytes ++ drop c.args.place.end c.args.block.now.bytes) c.args.place _ _ c.requires.kept c.requires.lies refl c.short_size.ensures.size (c.short_size-2.ensures.size ∙ ap (λ (bytes : List ℕ). length (bulk_spelling (slice_range bytes (c.args.place.value + 1) c.args.place.end))) c.as_slice.ensures) in
    let fields = ap (λ (k : Count). k.fields) c.count-count.ensures in
    let is = c.keep.ensures in
    then.keeps c.keep.new.self (ap (λ (k : Kept). k.bytes) is ∙ c.cut.ensures.bytes) (ap (λ (k : Kept). k.count.fields) is ∙ ap (λ n. n - 1) fields)
    (ap (λ (k : Kept). k.count.size) is ∙ ap (λ n. n - (c.short_size.result + c.short_size-2.result)) size)
