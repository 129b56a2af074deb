use Rattle.std.proofs.Common.{rules, ◌≡◌, ◌≤◌, ◌+◌, ◌++◌, length, refl, ap, ◌∙◌, arith}
use Rattle.hash.specs.Block.{Kept}
use Rattle.hash.specs.Packed.{word_packed}
use Rattle.hash.specs.declared.count.Count.{Count}
use Rattle.hash.specs.declared.repacking.TheConstants.{MOST_PACKED}
use Rattle.hash.proofs.KeptLemmas.{extends}
use Rattle.hash.proofs.repacking.extend.Goals as goal

pub overflow_add-count : goal.overflow_add-count
overflow_add-count c =
    let written : c.in_ok-after.after.items ≡ c.args.block.now.bytes ++ (word_packed c.args.field.now ++ word_packed c.args.value.now) = search rules in
    let small : length c.in_ok-after.after.items ≤ MOST_PACKED = search rules in
    let count = c.count-count.ensures in
    let fields = ap (λ (k : Count). k.fields) count in
    let size = ap (λ (k : Count). k.size) count in
    let then = extends c.args.block.now c.args.field.now c.args.value.now c.in_ok-after.after.items _ _ c.requires.kept c.requires.nowhere (omega (arith, c.if-field-gt-MOST_IN_WORD.false)) (omega (arith, c.if-value-gt-MOST_IN_WORD.false)) written small refl refl in
    omega (arith, fields, then.few)

pub overflow_add-count-2 : goal.overflow_add-count-2
overflow_add-count-2 c =
    let written : c.in_ok-after.after.items ≡ c.args.block.now.bytes ++ (word_packed c.args.field.now ++ word_packed c.args.value.now) = search rules in
    let small : length c.in_ok-after.after.items ≤ MOST_PACKED = search rules in
    let count = c.count-count.ensures in
    let fields = ap (λ (k : Count). k.fields) count in
    let size = ap (λ (k : Count). k.size) count in
    let then = extends c.args.block.now c.args.field.now c.args.value.now c.in_ok-after.after.items _ _ c.requires.kept c.requires.nowhere (omega (arith, c.if-field-gt-MOST_IN_WORD.false)) (omega (arith, c.if-value-gt-MOST_IN_WORD.false)) written small c.short_size.ensures.size refl in
    omega (arith, size, then.fits)

pub overflow_add-count-3 : goal.overflow_add-count-3
overflow_add-count-3 c =
    let written : c.in_ok-after.after.items ≡ c.args.block.now.bytes ++ (word_packed c.args.field.now ++ word_packed c.args.value.now) = search rules in
    let small : length c.in_ok-after.after.items ≤ MOST_PACKED = search rules in
    let count = c.count-count.ensures in
    let fields = ap (λ (k : Count). k.fields) count in
    let size = ap (λ (k : Count). k.size) count in
    let then = extends c.args.block.now c.args.field.now c.args.value.now c.in_ok-after.after.items _ _ c.requires.kept c.requires.nowhere (omega (arith, c.if-field-gt-MOST_IN_WORD.false)) (omega (arith, c.if-value-gt-MOST_IN_WORD.false)) written small c.short_size.ensures.size c.short_size-2.ensures.size in
    omega (arith, size, then.fits)

pub returns-clause-ok : goal.returns-clause-ok
returns-clause-ok c =
    let written : c.in_ok-after.after.items ≡ c.args.block.now.bytes ++ (word_packed c.args.field.now ++ word_packed c.args.value.now) = search rules in
    let small : length c.in_ok-after.after.items ≤ MOST_PACKED = search rules in
    let count = c.count-count.ensures in
    let fields = ap (λ (k : Count). k.fields) count in
    let size = ap (λ (k : Count). k.size) count in
    let then = extends c.args.block.now c.args.field.now c.args.value.now c.in_ok-after.after.items _ _ c.requires.kept c.requires.nowhere (omega (arith, c.if-field-gt-MOST_IN_WORD.false)) (omega (arith, c.if-value-gt-MOST_IN_WORD.false)) written small c.short_size.ensures.size c.short_size-2.ensures.size in
    let is = c.in_ok-take_over.ensures.ok in
    then.keeps c.take_over.new.self (ap (λ (k : Kept). k.bytes) is) (ap (λ (k : Kept). k.count.fields) is ∙ ap (λ n. n + 1) fields) (ap (λ (k : Kept). k.count.size) is ∙ ap (λ n. n + c.short_size.result + c.short_size-2.result) size)
