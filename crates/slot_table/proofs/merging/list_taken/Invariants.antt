use Rattle.std.proofs.Common.{◌≡◌, ◌≤◌, ◌++◌, ◌+◌, ◌-◌, filter}
use Rattle.std.specs.List.{range_with_len}
use Rattle.slot_table.specs.Table.{entry_at}
use Rattle.slot_table.specs.Claims.{is_above}
use Rattle.slot_table.proofs.merging.list_taken.Given as goal

abbrev pub invariant-loop-at : goal.invariant-loop-at
invariant-loop-at l = record {
  within : l.at - l.fn.range.first ≤ l.fn.range.last + 1 - l.fn.range.first;
  listed : l.slots.items ≡ l.initial.slots.items ++ filter (λ slot. is_above l.entry (entry_at l.entries slot)) (range_with_len l.fn.range.first (l.at - l.fn.range.first));
}
