use Rattle.std.proofs.Common.{arith}
use Rattle.audit.proofs.EachNode.{none_at_all}
use Rattle.audit.proofs.each_node.place_of.Goals as goal

pub returns-clause-none : goal.returns-clause-none
returns-clause-none g c = none_at_all g.T.OfNode.node c.args.number _ (λ i other below. c.loop-place.invariant i other (omega (arith, below, c.loop-place-test.false)))
