use Rattle.std.proofs.Common.{◌≡◌, ◌-◌, take}
use Rattle.byte_string.proofs.order.order.Given as goal

-- the bytes so far are alike
abbrev pub invariant-loop-at : goal.invariant-loop-at
invariant-loop-at l = take l.at l.a ≡ take l.at l.b

abbrev pub decreases-loop-at : goal.decreases-loop-at
decreases-loop-at l = l.last - l.at
