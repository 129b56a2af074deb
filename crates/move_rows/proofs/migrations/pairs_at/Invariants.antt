use Rattle.std.proofs.Common.{◌≡◌, take}
use Rattle.node_step.specs.Copies.{pairs_at}
use Rattle.move_rows.proofs.migrations.pairs_at.Given as goal

-- the pairs of the keys so far
abbrev pub invariant-loop-key : goal.invariant-loop-key
invariant-loop-key g l = l.pairs.items ≡ pairs_at l.node.keyspace (take l.key-index l.keys)
