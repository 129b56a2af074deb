use Rattle.std.proofs.Common.{ap, sym, ◌∙◌}
use Rattle.std.specs.Prelude.{unwrap_or}
use Rattle.slot_state.specs.Moves.{last_move_of}
use Rattle.slot_state.proofs.Maps.{get_by_slot}
use Rattle.slot_state.proofs.slot_moves.SlotMoves.last_move.Goals as goal

pub returns : goal.returns
returns c =
    c.unwrap_or.ensures
    ∙ ap (λ number. unwrap_or number 0) (c.copied.ensures ∙ c.get.ensures.value ∙ sym (get_by_slot c.self.inside.last.entries c.args.slot))
    ∙ ap (λ moves. last_move_of moves c.args.slot) c.self.view_is
