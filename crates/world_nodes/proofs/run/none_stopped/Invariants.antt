use Rattle.std.proofs.Common.{◌≡◌, false, replicate}
use Rattle.world_nodes.proofs.run.none_stopped.Given as goal

abbrev pub invariant-loop-at : goal.invariant-loop-at
invariant-loop-at l = l.stopped.items ≡ replicate l._at false
