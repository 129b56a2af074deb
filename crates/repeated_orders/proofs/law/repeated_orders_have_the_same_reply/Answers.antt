use Rattle.repeated_orders.proofs.Laws.{are_repeated}
use Rattle.repeated_orders.proofs.law.repeated_orders_have_the_same_reply.Goals as goal

pub returns : goal.returns
returns c = are_repeated
