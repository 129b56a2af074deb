use Rattle.audit.proofs.EachNode.{AreOrderedSoFar}
use Rattle.audit.proofs.each_node.put_in_order.Given as goal

-- those of the first nodes are in order
abbrev pub invariant-loop-number : goal.invariant-loop-number
invariant-loop-number g l = AreOrderedSoFar g.T.OfNode.node l.fn.all.items l.ordered.items l.all.items l.number
