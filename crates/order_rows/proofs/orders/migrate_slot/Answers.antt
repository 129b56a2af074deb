use Rattle.std.proofs.Common.{◌∙◌}
use Rattle.order_rows.proofs.OrderLemmas.{migrate_drafted}
use Rattle.order_rows.proofs.orders.migrate_slot.Goals as goal

pub returns : goal.returns
returns g c =
    migrate_drafted c.args.node.now c.args.conn c.args.order c.args.draft.now.plan c.migrate_verdict-verdict.result c.migrate_reply-reply.result _ c.migrate_change-change.result _
    c.migrate_verdict-verdict.ensures c.migrate_reply-reply.ensures (c.in_ok-bodies.ensures ∙ c.drained_at_start-drained.ensures) c.migrate_change-change.ensures c.draft_reply_sending.ensures
