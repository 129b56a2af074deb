use Rattle.std.proofs.Common.{◌==◌, ℕ, length, sym, ap, ◌∙◌}
use Rattle.std.specs.FinMap as map
use Rattle.slot_state.specs.Moves.{Moves, by_slot}
use Rattle.slot_state.proofs.Maps.{entries_by_slot}
use Rattle.slot_state.proofs.slot_moves.SlotMoves.are_none.Goals as goal

pub returns : goal.returns
returns c =
    let entries = c.self.inside.running.entries in
    ap (λ (n : ℕ). n == 0)
    (c.len.ensures.len ∙ ap length (entries_by_slot entries c.len.ensures.ordered) ∙ sym (map.len-entries (by_slot entries)) ∙ ap (λ (moves : Moves). map.len moves.running) c.self.view_is)
