-- A move that is taken back, or lent to be changed.
use Rattle.std.proofs.Common.{◌≡◌, ℕ, Option, IsSome, OnSome, ap, sym, ◌∙◌}
use Rattle.std.specs.Borrow.{MutBor}
use Rattle.std.specs.FinMap as map
use Rattle.std.specs.Option.{option_copied_mut}
use Rattle.std.specs.Ordering.{nat_cmp}
use Rattle.std.specs.Prelude.{None, Some, is_some}
use Rattle.slot_state.specs.Moves.{Moves, ended, move_of}
use Rattle.slot_state.specs.declared.running.Move.{Move}
use Rattle.slot_state.proofs.Maps.{remove_inserted}

abbrev pub with_running : map.FinMap nat_cmp Move → map.FinMap nat_cmp ℕ → Moves
with_running running last = record { running = running; last = last }

-- what holds where there is a move holds where one is lent
pub lent : {P : Type 0} (r : Option (MutBor Move)) (found : Option Move) → option_copied_mut r ≡ found → (IsSome found → P) → OnSome r P
lent None found is leads = tt
lent (Some move) found is leads = leads (sym (ap is_some is))

-- a move that begins and ends at once, its number not kept, leaves the moves as they were
pub undone : (moves : Moves) (slot : ℕ) (new : Move) (running : map.FinMap nat_cmp Move) (last : map.FinMap nat_cmp ℕ) → move_of moves slot ≡ None
    → running ≡ map.insert moves.running slot new → last ≡ moves.last → ended (record { running = running; last = last }) slot ≡ moves
undone moves slot new running last none put same =
    ap (λ r. with_running (map.remove r slot) last) put ∙ ap (λ r. with_running r last) (remove_inserted moves.running slot new none)
    ∙ ap (with_running moves.running) same
