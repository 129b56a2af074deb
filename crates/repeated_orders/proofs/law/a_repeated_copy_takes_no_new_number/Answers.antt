use Rattle.repeated_orders.proofs.Laws.{are_sent_again}
use Rattle.repeated_orders.proofs.law.a_repeated_copy_takes_no_new_number.Goals as goal

pub returns : goal.returns
returns c = are_sent_again
