-- The word that a slot is drained (ours).
use Rattle.std.specs.Prelude.{ℕ, ◌==◌, ◌&&◌, if◌then◌else◌, Some}
use Rattle.slot_state.specs.Moves.{Moves, move_of}
use Rattle.slot_state.specs.declared.running.Move.{Move}
use Rattle.slot_state.specs.declared.running.Move.TheVariants.{Leaves, Comes}
use Rattle.migrate.specs.Arriving.{changed_at}

-- it is noted while the slot comes from its sender under its number of the move
abbrev pub note_drained : ℕ → ℕ → ℕ → Move → Move
note_drained from move epoch (Comes source number last drained) = if source == from && number == move then Comes source number last (Some epoch) else Comes source number last drained
note_drained from move epoch (Leaves to number copies frozen) = Leaves to number copies frozen

abbrev pub after_drained : Moves → ℕ → ℕ → ℕ → ℕ → Moves
after_drained moves slot from move epoch = changed_at moves slot (note_drained from move epoch) (move_of moves slot)
