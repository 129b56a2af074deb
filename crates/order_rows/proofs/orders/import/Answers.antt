use Rattle.order_rows.proofs.OrderLemmas.{import_drafted}
use Rattle.order_rows.proofs.orders.import.Goals as goal

pub returns : goal.returns
returns g c =
    import_drafted c.args.node.now c.args.conn c.args.order c.args.draft.now.plan c.import_verdict-verdict.result c.import_reply-reply.result c.import_change-change.result _
    c.import_verdict-verdict.ensures c.import_reply-reply.ensures c.import_change-change.ensures c.draft_reply.ensures
