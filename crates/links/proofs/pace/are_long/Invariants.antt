use Rattle.std.proofs.Common.{◌≡◌, ◌+◌, take}
use Rattle.links.specs.Pace.{waiting_bytes}
use Rattle.links.specs.declared.pace.TheConstants.{MOST_WAITING_BYTES}
use Rattle.links.proofs.pace.are_long.Given as goal

-- what is left and what those so far bring are all the room
abbrev pub invariant-loop-place : goal.invariant-loop-place
invariant-loop-place g l = l.room + waiting_bytes (take l.place l.waiting.items) ≡ MOST_WAITING_BYTES
