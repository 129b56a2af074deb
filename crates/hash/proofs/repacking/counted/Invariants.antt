use Rattle.std.proofs.Common.{length}
use Rattle.hash.proofs.ShortLemmas.{Counts}
use Rattle.hash.proofs.repacking.counted.Given as goal

abbrev pub invariant-loop-field : goal.invariant-loop-field
invariant-loop-field l = Counts l.bytes l.fields l.size l.walk

abbrev pub decreases-loop-field : goal.decreases-loop-field
decreases-loop-field l = length l.walk
