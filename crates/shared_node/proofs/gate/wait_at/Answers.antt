use Rattle.std.proofs.Common.{rules}
use Rattle.shared_node.proofs.GateLemmas.{may_come_of_wait, noted_at_last}
use Rattle.shared_node.proofs.gate.wait_at.Goals as goal

pub returns-then-is_some-clause-asked : goal.returns-then-is_some-clause-asked
returns-then-is_some-clause-asked g c =
    noted_at_last c.args.conn c.take_reply-reply.result _ _ _ (search rules) c.loop.invariant c.take_reply-reply.ensures.came

pub returns-then-is_some-clause-allowed : goal.returns-then-is_some-clause-allowed
returns-then-is_some-clause-allowed g c =
    may_come_of_wait _ _ _ _ _ c.args.conn c.take_reply-reply.result c.take_reply-reply.ensures.cluster c.take_reply-reply.ensures.number
    c.take_reply-reply.ensures.history c.take_reply-reply.ensures.given
