use Rattle.repeated_orders.proofs.Laws.{may_be_repeated}
use Rattle.repeated_orders.proofs.law.orders_may_be_repeated.Goals as goal

pub returns : goal.returns
returns c = may_be_repeated
