use Rattle.std.proofs.Common.{◌≡◌, ◌<◌, ◌+◌, ◌^◌, ◌++◌, [], ◌∷◌, length, take, arith, ap, sym, ◌∙◌}
use Rattle.std.proofs.lemmas.List.{length-take, take_more}
use Rattle.hash.proofs.Foreseen.{same_copy, old_within, size_small, foreseen_next}
use Rattle.hash.proofs.extent.extent_before_last.Goals as goal

pub changed-extent-requires-clause-size : goal.changed-extent-requires-clause-size
changed-extent-requires-clause-size c = old_within _ _ _ _ _ c.loop-field.invariant c.loop-field-item.result.0 c.loop-field-item.result.1 _ c.value_now.ensures

pub changed-extent-requires-clause-small : goal.changed-extent-requires-clause-small
changed-extent-requires-clause-small c =
    let few : length c.args.hash.now < 2 ^ 63 = c.requires.few in
    let some : length (take c.loop-field.field-index c.args.changes.now) < 2 ^ 60 = omega (arith, length-take c.loop-field.field-index c.args.changes.now, c.requires.short) in
    size_small _ _ _ _ _ c.loop-field.invariant few some

pub loop-field-preserved : goal.loop-field-preserved
loop-field-preserved c =
    let more : take (c.loop-field.field-index + 1) c.args.changes.now ≡ take c.loop-field.field-index c.args.changes.now ++ (c.loop-field-item.result.0, c.loop-field-item.result.1) ∷ [] =
    take_more c.args.changes.now c.loop-field.field-index c.loop-field-item.result c.loop-field-test.true ∙ ap (λ x. take c.loop-field.field-index c.args.changes.now ++ x ∷ []) (sym c.loop-field-item.is) in
    foreseen_next _ _ _ _ _ c.loop-field.invariant c.loop-field-item.result.0 c.loop-field-item.result.1 _ c.value_now.ensures
    _ c.as_ref.ensures.value _ _ c.changed-extent.ensures.len c.changed-extent.ensures.size
    _ more _ _ _ c.in_ok-clone.ensures.cases (same_copy c.loop-field-item.result.1 _ c.in_ok-clone-2.ensures.cases) c.changed-extent.ensures.short c.in_ok-insert.ensures.updates.0
