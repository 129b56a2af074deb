-- A move that is lent to be changed (ours).
use Rattle.std.specs.Prelude.{◌≡◌, ℕ, Option, OnSome}
use Rattle.std.specs.Borrow.{LendsSo, MutBor, Fml}
use Rattle.slot_state.specs.Moves.{Moves, changed}
use Rattle.slot_state.specs.contracts.running.Move.{the_row as move_row}
use Rattle.slot_state.specs.contracts.slot_moves.SlotMoves.{the_row}
use Rattle.slot_state.specs.declared.running.Move.{Move}

-- the moves end with what is left behind r as the move of the slot, and as they are where nothing is lent
abbrev pub LendsMove : MutBor Moves → ℕ → Option (MutBor Move) → Fml
LendsMove moves slot r = LendsSo the_row move_row moves r (λ after left. OnSome r (after ≡ changed moves.now slot left)) (λ after. after ≡ moves.now)
