use Rattle.std.proofs.Common.{arith, ◌≡◌, ◌∙◌, ap, ◌++◌, filter}
use Rattle.std.specs.List.{range_with_len}
use Rattle.slot_table.specs.Table.{entry_at}
use Rattle.slot_table.specs.Claims.{is_above}
use Rattle.slot_table.proofs.MergeLemmas.{next_listed, tested, listed, left_out}
use Rattle.slot_table.proofs.merging.list_taken.Goals as goal
use Rattle.slot_table.proofs.merging.list_taken.Goals.{then-is_above+in_ok-push, else-is_above}

pub loop-at-preserved : goal.loop-at-preserved
loop-at-preserved c =
    let at = c.loop-at.at in
    let slots = c.loop-at.slots.items in
    let test : is_above c.args.entry.now (entry_at c.args.entries.now at) ≡ c.is_above.result =
    tested c.args.entry.now c.args.entries.now at c.index-entries-at.result c.is_above.result (omega arith) c.index-entries-at.is c.is_above.ensures in
    record {
      within = omega arith;
      listed = next_listed _ c.args.range.first at _ _ _ (omega arith) c.loop-at.invariant.listed (elim c.if-is_above.branch [
        | then-is_above+in_ok-push w ↦ ap (λ v. v.items) w.slots-is ∙ w.in_ok-push.ensures.items ∙ listed slots w.slot_at.result at _ (test ∙ w.if-is_above.true) w.slot_at.ensures
        | else-is_above w ↦ ap (λ v. v.items) w.slots-is ∙ left_out slots at _ (test ∙ w.if-is_above.false)
      ]);
    }

pub returns : goal.returns
returns c = record {
  first = omega arith;
  last = omega arith;
  listed = c.loop-at.invariant.listed
      ∙ ap (λ count. c.args.slots.now.items ++ filter (λ slot. is_above c.args.entry.now (entry_at c.args.entries.now slot)) (range_with_len c.args.range.first count)) (omega arith);
}
