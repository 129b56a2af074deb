use Rattle.std.proofs.Common.{◌≡◌, ◌∷◌, ◌+◌, List, ℕ, Option, drop, sym, ap, ◌∙◌}
use Rattle.std.proofs.lemmas.List.{drop_more}
use Rattle.hash.specs.Packed.{packed, pairs_in}
use Rattle.hash.specs.Pairs.{field_changed}
use Rattle.hash.proofs.ShortLemmas.{leads_on}
use Rattle.hash.proofs.repacking.change_fields.Goals as goal

pub loop-field-preserved : goal.loop-field-preserved
loop-field-preserved c =
    let next : drop c.loop-field.field-index c.args.changes.now ≡ (c.loop-field-item.result.0, c.loop-field-item.result.1) ∷ drop (c.loop-field.field-index + 1) c.args.changes.now =
    drop_more c.args.changes.now c.loop-field.field-index c.loop-field-item.result c.loop-field-test.true
    ∙ ap (λ change. change ∷ drop (c.loop-field.field-index + 1) c.args.changes.now) (sym c.loop-field-item.is) in
    leads_on c.loop-field.bytes.items _ c.loop-field-item.result.0 c.loop-field-item.result.1 _ _ _ c.loop-field.invariant next
    (c.in_ok-change_field.ensures ∙ ap (λ (value : Option (List ℕ)). packed (field_changed (pairs_in c.loop-field.bytes.items) c.loop-field-item.result.0 value)) c.as_ref.ensures.value)
