use Rattle.std.proofs.Common.{◌-◌, ◌<◌, ◌≤◌, drop, length, take}
use Rattle.std.specs.Prelude.{IsTrue}
use Rattle.resp_values.specs.Line.{is_one_line}
use Rattle.resp2.proofs.leaf.end_of_text.Given as goal

abbrev pub invariant-text : goal.invariant-text
invariant-text l = (0 < l.at) × (l.at ≤ length l.bytes) × IsTrue (is_one_line (drop 1 (take l.at l.bytes)))

abbrev pub decreases-text : goal.decreases-text
decreases-text l = length l.bytes - l.at
