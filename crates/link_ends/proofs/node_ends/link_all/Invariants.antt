use Rattle.link_ends.proofs.FacingLemmas.{AllFacing}
use Rattle.link_ends.proofs.node_ends.link_all.Given as goal

-- the nodes so far are linked
abbrev pub invariant-loop : goal.invariant-loop
invariant-loop g l = AllFacing l.counter l.all.items
