use Rattle.std.proofs.Common.{ap, refl, subst}
use Rattle.std.specs.Option.{option_copied}
use Rattle.node_parts.specs.Drafts.{Promotes}
use Rattle.node_step.specs.Outcome.{Outcome}
use Rattle.node_core.proofs.VoteLemmas.{handed_over, not_handed_over, promotion_made, stays_replica}
use Rattle.node_core.proofs.votes.promoted_by_plan.Goals as goal

pub returns-in_default-clause-promoted : goal.returns-in_default-clause-promoted
returns-in_default-clause-promoted g c =
    let node = c.args.node.now in
    stays_replica c.args.ticket node _ c.plain.result.0 _ (not_handed_over node c.args.epoch c.args.master (option_copied c.handed_over.result) c.handed_over.ensures (ap option_copied c.in_default.is)) c.plain.ensures.outputs refl

pub returns-clause-promoted : goal.returns-clause-promoted
returns-clause-promoted g c =
    let node = c.args.node.now in
    let same = handed_over node c.args.epoch c.args.master (option_copied c.handed_over.result) c.in-Some.handing.now c.handed_over.ensures (ap option_copied c.in-Some.is) in
    promotion_made c.args.ticket node _ c.promote_by_plan.new.draft c.in_ok-make.field-0.0 c.make.new.node
    (subst (λ (outcome : Outcome). Promotes node outcome c.promote_by_plan.new.draft) same c.in_ok-promote_by_plan.ensures) c.in_ok-make.ensures.outputs c.in_ok-make.ensures.state
