use Rattle.audit.specs.Merge.{AreTaken}
use Rattle.audit.proofs.order.take_apart.Given as goal

-- the parts of the nodes so far are taken
abbrev pub invariant-loop-number : goal.invariant-loop-number
invariant-loop-number g l =
    AreTaken g.K.Deployment.config g.K.Deployment.table g.K.Deployment.seats l.fn.parts.items l.number l.journals.items l.seats.items l.parts.items
