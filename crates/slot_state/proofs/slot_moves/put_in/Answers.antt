use Rattle.slot_state.proofs.Maps.{by_slot_insert}
use Rattle.slot_state.proofs.slot_moves.put_in.Goals as goal

pub returns-clause-ok : goal.returns-clause-ok
returns-clause-ok g c = by_slot_insert _ _ _ _ c.in_ok-_old.ensures.updates.0
