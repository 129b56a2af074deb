use Rattle.std.proofs.Common.{[], ◌∷◌, ap, refl, sym, ◌∙◌}
use Rattle.bus.specs.declared.bodies.ElectionBody.TheVariants.{Pause}
use Rattle.bus.specs.declared.message.Body.TheVariants.{Election}
use Rattle.node_step.specs.State.{NodeState}
use Rattle.handover_rows.proofs.AskingLemmas.{asked, refused}
use Rattle.handover_rows.proofs.asking.ask_master.Goals as goal

pub returns-in_default : goal.returns-in_default
returns-in_default g c =
    refused c.args.node.now c.args.conn c.tell.new.draft _ (sym c.own_master.ensures ∙ c.in_default.is) c.reply.ensures c.tell.ensures

pub returns : goal.returns
returns g c =
    asked c.args.node.now c.args.conn c.draft_reply_sending.new.draft _ c.in-Some.master _ (sym c.own_master.ensures ∙ c.in-Some.is) c.done.ensures
    (c.in_ok-bodies.ensures ∙ ap (λ id. (c.in-Some.master, Election (Pause id)) ∷ []) c.id.ensures ∙ ap (λ (n : NodeState). (c.in-Some.master, Election (Pause n.stream.held.id)) ∷ []) c.node.view_is) (c.draft_reply_sending.ensures _ refl)
