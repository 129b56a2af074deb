use Rattle.std.proofs.Common.{length, ◌-◌, ◌≤◌}
use Rattle.slot_table.specs.Table.{entry_at}
use Rattle.slot_table.proofs.RunLemmas.{AreRunsUpTo}
use Rattle.slot_table.proofs.runs.runs_of.Given as goal

abbrev pub invariant-loop-at : goal.invariant-loop-at
invariant-loop-at g l = record {
  within : l.at ≤ length l.entries;
  runs : AreRunsUpTo l.at (λ slot. g.V.EntryValue.value_in l.wanted (entry_at l.entries slot)) l.runs.items;
}

abbrev pub decreases-loop-at : goal.decreases-loop-at
decreases-loop-at g l = length l.entries - l.at
