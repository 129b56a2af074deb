use Rattle.audit.proofs.EachNode.{NoneBefore}
use Rattle.audit.proofs.each_node.place_of.Given as goal

abbrev pub invariant-loop-place : goal.invariant-loop-place
invariant-loop-place g l = NoneBefore g.T.OfNode.node l.number l.place l.all
