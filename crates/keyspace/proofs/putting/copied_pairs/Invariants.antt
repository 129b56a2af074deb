use Rattle.std.proofs.Common.{◌≡◌, ◌++◌, length}
use Rattle.command_table.specs.Pairs.{pairs_in}
use Rattle.keyspace.specs.Putting.{string_pairs}
use Rattle.keyspace.proofs.putting.copied_pairs.Given as goal

-- the pairs so far, and those of the rest
abbrev pub invariant-loop-key : goal.invariant-loop-key
invariant-loop-key l = l.copied.items ++ string_pairs (pairs_in l.rest) ≡ string_pairs l.pairs

abbrev pub decreases-loop-key : goal.decreases-loop-key
decreases-loop-key l = length l.rest
