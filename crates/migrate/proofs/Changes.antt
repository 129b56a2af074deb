-- Moves of which one is changed.
use Rattle.std.proofs.Common.{◌≡◌, ℕ, Option, OnSome, ap, ◌∙◌}
use Rattle.std.specs.Prelude.{Some, None}
use Rattle.slot_state.specs.Moves.{Moves, changed, move_of}
use Rattle.slot_state.specs.declared.running.Move.{Move}
use Rattle.migrate.specs.Arriving.{changed_at}

-- what holds where a part is lent holds where there is one
pub where_lent : {X P : Type 0} (r : Option X) (part : X) → r ≡ Some part → OnSome r P → P
where_lent None part is holds = absurd (cc)
where_lent (Some other) part is holds = holds

module _ (moves : Moves) (slot : ℕ) (move new : Move) (is : Some move ≡ move_of moves slot) where
  -- a move that is changed by a function
  pub changed-changed_at : (change : Move → Move) → new ≡ change move → changed moves slot new ≡ changed_at moves slot change (move_of moves slot)
  changed-changed_at change by = ap (changed moves slot) by ∙ ap (changed_at moves slot change) is
