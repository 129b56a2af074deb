use Rattle.std.proofs.Common.{◌≡◌, ◌==◌, not, false, ap, refl, rules, subst, sym, ◌∙◌}
use Rattle.node_core.proofs.MessageLemmas.{passed_by, taken_is_step}
use Rattle.node_core.proofs.StepLemmas.{if_made, if_refused, offset_alike}
use Rattle.node_core.specs.Comes.{MayBeTaken}
use Rattle.node_step.proofs.Ready.{ready_keeps}
use Rattle.node_parts.proofs.ElectionLemmas.{heard_put_back}
use Rattle.node_parts.specs.Drafts.{Comes}
use Rattle.node_step.specs.Messages.{ready, written_by_message}
use Rattle.node_step.specs.Numbers.{has_offset}
use Rattle.node_step.specs.State.{NodeState}
use Rattle.node_core.proofs.node.NodeCore.deliver.Goals as goal

pub returns-then-ne-clause-step : goal.returns-then-ne-clause-step
returns-then-ne-clause-step g c =
    passed_by c.args.ticket c.args.self.now c.args.message.now c.plain.result.0 _
    (ap (λ (node : NodeState). not (c.args.message.now.to == node.number)) (sym c.self.view_is)
    ∙ ap (λ core. not (c.args.message.now.to == core.parts.number)) (sym c.self-inside.view_is) ∙ sym c.ne.ensures ∙ c.if-ne.true) c.plain.ensures.outputs refl

pub returns-then-is_ok-clause-step : goal.returns-then-is_ok-clause-step
returns-then-is_ok-clause-step g c =
    let message = c.args.message.now in
    let heard : c.hear-dropped.new.self ≡ ready c.args.self.now message = c.hear-dropped.ensures.state ∙ ap (λ (node : NodeState). ready node message) c.self.view_is in
    if_made c.take-taken.result _ _
    (λ made comes. taken_is_step c.args.ticket c.args.self.now message made.0 c.take-taken.new.node
    (ap (λ (node : NodeState). not (message.to == node.number)) (sym c.self.view_is)
    ∙ ap (λ core. not (message.to == core.parts.number)) (sym c.self-inside.view_is) ∙ sym c.ne.ensures ∙ c.if-ne.false)
    (subst (λ (node : NodeState). Comes c.args.ticket (MayBeTaken node message.from message.body) made.0 c.take-taken.new.node) heard comes))
    c.take-taken.ensures.taken

pub returns-clause-exhausted : goal.returns-clause-exhausted
returns-clause-exhausted g c = λ exhausted.
    let message = c.args.message.now in
    let old = c.args.self.now in
    let heard : c.hear-dropped.new.self ≡ ready old message = c.hear-dropped.ensures.state ∙ ap (λ (node : NodeState). ready node message) c.self.view_is in
    let stays : (ready old message).stream ≡ old.stream = ready_keeps (λ (node : NodeState). node.stream ≡ old.stream) old message (λ epoch masters health candidate handover as_before goes. refl) in
    sym (offset_alike old (ready old message) (written_by_message (ready old message) message.from message.body) stays)
    ∙ subst (λ (node : NodeState). has_offset node (written_by_message node message.from message.body) ≡ false) heard (c.take-taken.ensures.exhausted exhausted)

pub returns-clause-err : goal.returns-clause-err
returns-clause-err g c =
    let message = c.args.message.now in
    let heard : c.hear-dropped.new.self ≡ ready c.args.self.now message = c.hear-dropped.ensures.state ∙ ap (λ (node : NodeState). ready node message) c.self.view_is in
    if_refused c.take-taken.result _ _
    (λ keeps. heard_put_back c.args.self.now c.hear-dropped.new.self c.take-taken.new.node c.put_back.new.self c.put_note_back.new.self message c.hear-dropped.result heard
    keeps (search rules) (search rules) c.put_note_back.ensures) c.take-taken.ensures.err
