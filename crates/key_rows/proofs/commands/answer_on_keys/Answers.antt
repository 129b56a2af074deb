use Rattle.std.proofs.Common.{◌∙◌, sym}
use Rattle.key_rows.proofs.RefusalLemmas.{drafts_refusing, drafts_serving_if_made, served_in_one_slot}
use Rattle.key_rows.proofs.commands.answer_on_keys.Goals as goal

pub serve-requires-clause-place : goal.serve-requires-clause-place
serve-requires-clause-place g c = c.in_ok-decision.ensures.place (served_in_one_slot _ (sym c.is_served.ensures ∙ c.if-is_served.true))

pub returns-then-is_served : goal.returns-then-is_served
returns-then-is_served g c =
    drafts_serving_if_made c.args.node.now _ c.args.connection.numbered c.args.command.now _ _ c.serve.new.draft c.serve.result c.is_served.result c.in_ok-decision.ensures.decision c.is_served.ensures c.if-is_served.true c.serve.ensures

pub returns : goal.returns
returns g c =
    drafts_refusing c.args.node.now _ c.args.connection.numbered c.args.command.now _ _ c.tell.new.draft c.is_served.result c.in_ok-decision.ensures.decision c.is_served.ensures c.in_ok-reply.reply c.if-is_served.false
    c.in_ok-reply.ensures c.tell.ensures
