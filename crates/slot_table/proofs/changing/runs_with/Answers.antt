use Rattle.std.proofs.Common.{◌≡◌, ◌≢◌, ◌+◌, ℕ, Option, arith, subst, sym}
use Rattle.slot_table.specs.CutRuns.{AreRunsCutAt, with_value}
use Rattle.slot_table.proofs.CutRunLemmas.{cut-zero, with_own, with_others}
use Rattle.slot_table.proofs.changing.runs_with.Goals as goal

pub returns : goal.returns
returns c = λ value_at are.
    let slot : ℕ = c.args.slot in
    let epoch : Option ℕ = c.args.epoch in
    let wanted : ℕ → Option ℕ = with_value value_at slot epoch in
    let other : (at : ℕ) → at ≢ slot → wanted at ≡ value_at at = with_others value_at slot epoch in
    let none = subst (AreRunsCutAt 0 wanted) (sym c.in_ok-changed.ensures.items) (cut-zero wanted) in
    let before = c.in_ok-push_parts.ensures value_at wanted are (λ at from below. let index = c.index.ensures.same in other at (λ same. omega arith)) none in
    let slot_too = c.in_ok-push_slot.ensures wanted (subst (λ bound. AreRunsCutAt bound wanted c.push_parts.new.changed.items) c.index.ensures.same before) (with_own value_at slot epoch) in
    c.in_ok-push_parts-2.ensures value_at wanted are (λ at from below. let index = c.index-2.ensures.same in other at (λ same. omega arith))
    (subst (λ bound. AreRunsCutAt (bound + 1) wanted c.push_slot.new.changed.items) (sym c.index-2.ensures.same) slot_too)
