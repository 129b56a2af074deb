use Rattle.std.proofs.Common.{length, ◌-◌, ◌≡◌, ◌<◌, ◌≤◌, ℕ, Some}
use Rattle.slot_table.specs.Table.{entry_at}
use Rattle.slot_table.proofs.runs.end_of.Given as goal

abbrev pub invariant-loop-end : goal.invariant-loop-end
invariant-loop-end g l = record {
  behind : l.from < l.end;
  within : l.end ≤ length l.entries;
  has : (slot : ℕ) → l.from ≤ slot → slot < l.end → g.V.EntryValue.value_in l.wanted (entry_at l.entries slot) ≡ Some l.value;
}

abbrev pub decreases-loop-end : goal.decreases-loop-end
decreases-loop-end g l = length l.entries - l.end
