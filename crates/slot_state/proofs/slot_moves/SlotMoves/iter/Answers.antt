use Rattle.std.proofs.Common.{◌<◌, length, subst, ap, ◌∙◌}
use Rattle.slot_state.specs.Moves.{running_moves}
use Rattle.slot_state.proofs.Maps.{entries_by_slot}
use Rattle.slot_state.proofs.slot_moves.SlotMoves.iter.Goals as goal

pub returns-clause-moves : goal.returns-clause-moves
returns-clause-moves c = c.iter.ensures.rest ∙ entries_by_slot _ c.iter.ensures.ordered ∙ ap running_moves c.self.view_is

pub returns-clause-fits : goal.returns-clause-fits
returns-clause-fits c =
    subst (λ entries. length entries < 9223372036854775808) (entries_by_slot c.self.inside.running.entries c.iter.ensures.ordered ∙ ap running_moves c.self.view_is) c.iter.ensures.fits
