use Rattle.std.proofs.Common.{length, ◌-◌}
use Rattle.slot_table.proofs.merging.is_in_known.Given as goal

abbrev pub decreases-loop-at : goal.decreases-loop-at
decreases-loop-at l = length l.known - l.at
