use Rattle.std.proofs.Common.{◌≡◌, ◌<◌, ◌≤◌, ℕ, length, drop}
use Rattle.slot_table.specs.Table.{entry_at, first_entry}
use Rattle.slot_table.proofs.table.give_all.Given as goal

abbrev pub invariant-loop-left : goal.invariant-loop-left
invariant-loop-left l = record {
  within : l.left ≤ length l.owners;
  whole : length l.entries ≡ 16384;
  given : (slot : ℕ) → slot < 16384 → entry_at l.entries slot ≡ first_entry (drop l.left l.owners) slot;
}

abbrev pub decreases-loop-left : goal.decreases-loop-left
decreases-loop-left l = l.left
