use Rattle.slot_state.proofs.Maps.{by_slot_remove}
use Rattle.slot_state.proofs.slot_moves.take_out.Goals as goal

pub returns : goal.returns
returns g c = by_slot_remove _ _ _ c.remove-old.ensures.updates.0
