-- What two seats drew together.
use Rattle.std.proofs.Common.{◌≡◌, ℕ, ◌+◌, List, [], ◌∷◌, ◌++◌, ap, ◌∙◌, arith}
use Rattle.tickets.specs.Tickets.{drawn, total, times, once_below}
use Rattle.tickets.specs.declared.seat.Seat.{Seat}

pub drawn_once : (seats : List Seat) (first second : Seat) (a b c d n x : ℕ) → seats ≡ first ∷ second ∷ []
    → drawn first ≡ a ∷ b ∷ [] → drawn second ≡ c ∷ d ∷ [] → total (λ (s : Seat). times x (drawn s)) seats ≡ once_below x n
    → times x (a ∷ b ∷ c ∷ d ∷ []) ≡ once_below x n
drawn_once seats first second a b c d n x are one two once =
    let both : total (λ (s : Seat). times x (drawn s)) seats ≡ times x (drawn first) + (times x (drawn second) + 0) =
    ap (total (λ (s : Seat). times x (drawn s))) are in
    let left : times x (drawn first) ≡ times x (a ∷ b ∷ []) = ap (times x) one in
    let right : times x (drawn second) ≡ times x (c ∷ d ∷ []) = ap (times x) two in
    omega arith

-- two numbers were drawn, one after the other
pub drew_two : {before middle after : List ℕ} {a b : ℕ} → before ≡ [] → middle ≡ before ++ a ∷ [] → after ≡ middle ++ b ∷ [] → after ≡ a ∷ b ∷ []
drew_two {a = a} {b = b} none one two =
    two ∙ ap (λ (ns : List ℕ). ns ++ b ∷ []) (one ∙ ap (λ (ns : List ℕ). ns ++ a ∷ []) none)
