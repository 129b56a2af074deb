use Rattle.shared_node.proofs.GateLemmas.{may_give_if_taken}
use Rattle.shared_node.proofs.gate.Gate.look.Goals as goal

pub returns-clause-given : goal.returns-clause-given
returns-clause-given g c =
    may_give_if_taken _ _ _ _ _ c.args.conn c.take_reply-found.result c.take_reply-found.ensures.cluster c.take_reply-found.ensures.number
    c.take_reply-found.ensures.history c.take_reply-found.ensures.given
