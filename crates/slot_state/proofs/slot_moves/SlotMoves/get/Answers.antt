use Rattle.std.proofs.Common.{ap, sym, ◌∙◌}
use Rattle.slot_state.specs.Moves.{move_of}
use Rattle.slot_state.proofs.Maps.{get_by_slot}
use Rattle.slot_state.proofs.slot_moves.SlotMoves.get.Goals as goal

pub returns : goal.returns
returns c =
    c.get.ensures.value ∙ sym (get_by_slot c.self.inside.running.entries c.args.slot) ∙ ap (λ moves. move_of moves c.args.slot) c.self.view_is
