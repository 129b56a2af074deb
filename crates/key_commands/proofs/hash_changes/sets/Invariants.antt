use Rattle.std.proofs.Common.{◌≡◌, ◌++◌, length}
use Rattle.command_table.specs.Pairs.{pairs_in}
use Rattle.keyspace.specs.Hashes.{sets}
use Rattle.key_commands.proofs.hash_changes.sets.Given as goal

-- the changes of the pairs so far, and those of the rest
abbrev pub invariant-loop-field : goal.invariant-loop-field
invariant-loop-field l = l.changes.items ++ sets (pairs_in l.rest) ≡ sets l.pairs

abbrev pub decreases-loop-field : goal.decreases-loop-field
decreases-loop-field l = length l.rest
