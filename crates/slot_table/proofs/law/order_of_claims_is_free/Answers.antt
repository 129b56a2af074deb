use Rattle.slot_table.proofs.JoinLemmas.{in_any_order}
use Rattle.slot_table.proofs.law.order_of_claims_is_free.Goals as goal

pub returns : goal.returns
returns c = in_any_order
