use Rattle.std.proofs.Common.{◌≡◌, ℕ, List, ◌++◌, length, map}
use Rattle.std.specs.Borrow.{Bor}
use Rattle.command_table.specs.Keys.{pair_keys}
use Rattle.command_table.specs.Pairs.{pairs_in}
use Rattle.command_table.proofs.command.first_slices.Given as goal

-- the keys so far and those of the rest are the keys of all pairs
abbrev pub invariant-loop-key : goal.invariant-loop-key
invariant-loop-key l = map (λ (key : Bor (List ℕ)). key.now) l.keys.items ++ pair_keys (pairs_in l.rest) ≡ pair_keys (pairs_in l.words)

abbrev pub decreases-loop-key : goal.decreases-loop-key
decreases-loop-key l = length l.rest
