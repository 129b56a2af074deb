use Rattle.std.proofs.Common.{ap, sym, ◌∙◌, ◌==◌, refl, rules}
use Rattle.node_step.specs.State.{NodeState}
use Rattle.move_rows.proofs.TakenSlots.{claim_drafted, own_claim_drafted}
use Rattle.move_rows.proofs.WriteLemmas.{loss_written, own_claim_written}
use Rattle.move_rows.proofs.claims.take_claim.Goals as goal

pub returns-clause-draft : goal.returns-clause-draft
returns-clause-draft g c =
    claim_drafted c.args.node.now c.args.from c.args.taken.now c.in_ok-claim.claim c.in_ok-lost.lost.items c.as_slice.result.now c.reply-reply.result _ c.new-bodies.result.items c.draft_releases.new.draft
    (ap (λ (node : NodeState). c.args.from == node.number) (sym c.node.view_is) ∙ sym c.eq.ensures ∙ c.if-eq.false)
    c.in_ok-lost.ensures c.as_slice.ensures.value c.reply-reply.ensures c.in_ok-released.ensures c.in_ok-claim.ensures.cases (search rules) (c.draft_releases.ensures _ refl)

pub returns-then-eq-clause-draft : goal.returns-then-eq-clause-draft
returns-then-eq-clause-draft g c =
    own_claim_drafted c.args.node.now c.args.from c.args.taken.now c.draft_change.new.draft
    (ap (λ (node : NodeState). c.args.from == node.number) (sym c.node.view_is) ∙ sym c.eq.ensures ∙ c.if-eq.true) (c.draft_change.ensures _ refl)

pub returns-clause-written : goal.returns-clause-written
returns-clause-written g c =
    c.in_ok-bytes.ensures
    ∙ loss_written c.args.node.now c.args.from c.args.taken.now c.in_ok-lost.lost.items _ _ (ap (λ (node : NodeState). node.keyspace) c.node.view_is)
    (ap (λ (node : NodeState). c.args.from == node.number) (sym c.node.view_is) ∙ sym c.eq.ensures ∙ c.if-eq.false)
    c.in_ok-lost.ensures c.as_slice-2.ensures.value

pub returns-then-eq-clause-written : goal.returns-then-eq-clause-written
returns-then-eq-clause-written g c =
    c.new.ensures.items ∙ own_claim_written c.args.node.now c.args.from c.args.taken.now (ap (λ (node : NodeState). c.args.from == node.number) (sym c.node.view_is) ∙ sym c.eq.ensures ∙ c.if-eq.true)
