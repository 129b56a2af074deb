use Rattle.std.proofs.Common.{◌≡◌, ◌+◌, length}
use Rattle.key_map.specs.Few.{place_of}
use Rattle.key_map.proofs.Places.{behind}
use Rattle.key_map.proofs.few.place_in.Given as goal

-- the keys so far are below the one that is sought
abbrev pub invariant-loop-pair : goal.invariant-loop-pair
invariant-loop-pair g l = (behind l.at (place_of l.key l.rest) ≡ place_of l.fn.key l.fn.pairs) × (l.at + length l.rest ≡ length l.fn.pairs)

abbrev pub decreases-loop-pair : goal.decreases-loop-pair
decreases-loop-pair g l = length l.rest
