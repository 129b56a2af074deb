use Rattle.std.proofs.Common.{◌≡◌, ◌+◌, take, sum_by}
use Rattle.links.specs.Pace.{pair_bytes}
use Rattle.links.proofs.pace.room_after_pairs.Given as goal

-- what is left and what those so far have are the room
abbrev pub invariant-loop-pair : goal.invariant-loop-pair
invariant-loop-pair l = l.left + sum_by pair_bytes (take l.pair-index l.pairs) ≡ l.room
