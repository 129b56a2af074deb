use Rattle.std.proofs.Common.{refl, sym, ◌∙◌}
use Rattle.node_core.proofs.StepLemmas.{if_made}
use Rattle.node_core.proofs.VoteLemmas.{as_outcome, elected_by_plan, elected_in_place, nobody_replaced, stays_replica}
use Rattle.node_core.proofs.votes.promoted.Goals as goal

pub returns-in_default-clause-promoted : goal.returns-in_default-clause-promoted
returns-in_default-clause-promoted g c =
    stays_replica c.args.ticket c.args.node.now _ c.plain.result.0 _ (nobody_replaced c.args.node.now c.args.epoch (sym c.own_master.ensures ∙ c.in_default.is)) c.plain.ensures.outputs refl

pub returns-then-is_election_planned-clause-promoted : goal.returns-then-is_election_planned-clause-promoted
returns-then-is_election_planned-clause-promoted g c =
    let own = sym c.own_master.ensures ∙ c.in-Some.is in
    if_made c.promoted_by_plan.result _ _
    (λ made comes. as_outcome c.args.ticket _ _ made.0 c.promoted_by_plan.new.node
    (elected_by_plan c.args.node.now c.args.epoch c.in-Some.master own (sym c.is_election_planned.ensures ∙ c.if-is_election_planned.true)) comes)
    c.promoted_by_plan.ensures.promoted

pub returns-else-is_election_planned-clause-promoted : goal.returns-else-is_election_planned-clause-promoted
returns-else-is_election_planned-clause-promoted g c =
    let own = sym c.own_master.ensures ∙ c.in-Some.is in
    if_made c.promoted_in_place.result _ _
    (λ made comes. as_outcome c.args.ticket _ _ made.0 c.promoted_in_place.new.node
    (elected_in_place c.args.node.now c.args.epoch c.in-Some.master own (sym c.is_election_planned.ensures ∙ c.if-is_election_planned.false)) comes)
    c.promoted_in_place.ensures.promoted
