use Rattle.std.proofs.Common.{arith}
use Rattle.same_messages.proofs.Prefixes.{same_lists}
use Rattle.same_messages.proofs.same.are_same_pairs.Goals as goal

pub returns-clause-same : goal.returns-clause-same
returns-clause-same c _ = same_lists _ _ c.loop-place.invariant.1 (λ i other below. c.loop-place.invariant.0 i other (omega (arith, below, c.loop-place-test.false)))
