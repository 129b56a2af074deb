use Rattle.std.proofs.Common.{◌≡◌, take}
use Rattle.byte_string.proofs.order.order_few.Given as goal

-- the bytes so far are alike
abbrev pub invariant-loop-i : goal.invariant-loop-i
invariant-loop-i l = take l.i l.a ≡ take l.i l.b
