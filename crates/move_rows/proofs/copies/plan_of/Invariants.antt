use Rattle.std.proofs.Common.{◌≡◌, take}
use Rattle.move_rows.proofs.copies.plan_of.Given as goal

-- the pairs so far
abbrev pub invariant-loop-pair : goal.invariant-loop-pair
invariant-loop-pair l = l.copied.items ≡ take l.pair-index l.pairs
