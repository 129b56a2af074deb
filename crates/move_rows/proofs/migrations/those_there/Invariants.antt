use Rattle.std.proofs.Common.{◌≡◌, take}
use Rattle.node_step.specs.Copies.{those_there}
use Rattle.move_rows.proofs.migrations.those_there.Given as goal

-- those of the keys so far
abbrev pub invariant-loop-key : goal.invariant-loop-key
invariant-loop-key g l = l.keys.items ≡ those_there l.node.keyspace (take l.key-index l.named)
