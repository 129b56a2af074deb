use Rattle.key_rows.proofs.PlaceLemmas.{drafts_served}
use Rattle.key_rows.proofs.commands.serve.Goals as goal

pub returns : goal.returns
returns g c =
    drafts_served c.args.node.now c.args.conn c.args.command.now c.args.decision c.place_of-place.result c.execute.new.plan _ _ c.served_change-change.result c.draft_reply_sending.new.draft
    c.in_ok-reply.ensures.sent c.in_ok-reply.ensures.reply c.in_ok-reply.ensures.after c.served_change-change.ensures c.draft_reply_sending.ensures
