use Rattle.std.proofs.Common.{◌-◌, length}
use Rattle.hash.specs.Places.{IsBehind}
use Rattle.hash.proofs.packing.place_of.Given as goal

-- the field isn't among the pairs so far
abbrev pub invariant-loop-at : goal.invariant-loop-at
invariant-loop-at l = IsBehind l.bytes l.field l.at

abbrev pub decreases-loop-at : goal.decreases-loop-at
decreases-loop-at l = length l.bytes - l.at
