use Rattle.node_core.proofs.VoteLemmas.{promotion_made}
use Rattle.node_core.proofs.votes.promoted_in_place.Goals as goal

pub returns-clause-promoted : goal.returns-clause-promoted
returns-clause-promoted g c =
    promotion_made c.args.ticket c.args.node.now _ c.promote.new.draft c.in_ok-make.field-0.0 c.make.new.node c.in_ok-promote.ensures c.in_ok-make.ensures.outputs c.in_ok-make.ensures.state
