-- Slots that are lost (ours: a slot that comes stays on its way).
use Rattle.std.specs.Prelude.{ℕ, ◌&&◌, not, Bool, true, false, Option, Some, None}
use Rattle.std.specs.FinMap as map
use Rattle.slot_state.specs.Moves.{Moves, move_of}
use Rattle.slot_state.specs.declared.running.Move.{Move}
use Rattle.slot_state.specs.declared.running.Move.TheVariants.{Leaves, Comes}

abbrev pub is_leaving : Option Move → Bool
is_leaving None = false
is_leaving (Some (Leaves to number copies frozen)) = true
is_leaving (Some (Comes from number last drained)) = false

abbrev pub after_loss : Moves → (ℕ → Bool) → Moves
after_loss moves is_lost = record moves { running = map.retain_keys moves.running (λ slot. not (is_lost slot && is_leaving (move_of moves slot))) }
