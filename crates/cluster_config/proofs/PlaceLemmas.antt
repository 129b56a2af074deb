-- The place of the first element that passes a test.
use Rattle.std.proofs.Common.{◌≡◌, refl, inl, inr, arith, ◌≤◌, Bool, cond, ltb, List, [], ◌∷◌, length, Some, None}
use Rattle.std.specs.List.{position_or_len}
use Rattle.std.specs.Option.{unwrap_or}
use Rattle.std.proofs.lemmas.Bool.{cases_Bool, cases_lt, lt-ltb, le-ltb}

-- a place in a list isn't behind it
pub position-le : {A : Type 0} (passes : A → Bool) (xs : List A) → position_or_len passes xs ≤ length xs
position-le passes [] = omega arith
position-le passes (x ∷ xs) =
    elim (cases_Bool (passes x)) [
      | inl is ↦ grind (arith, is)
      | inr isnt ↦ grind (arith, isnt, position-le passes xs)
    ]

-- the first place, or the length
pub first_place : {A : Type 0} (passes : A → Bool) (xs : List A)
    → unwrap_or (cond (ltb (position_or_len passes xs) (length xs)) (Some (position_or_len passes xs)) None) (length xs) ≡ position_or_len passes xs
first_place passes xs =
    elim (cases_lt (position_or_len passes xs) (length xs)) [
      | inl lt ↦ rw (lt-ltb (position_or_len passes xs) (length xs) lt) refl
      | inr le ↦ rw (le-ltb (position_or_len passes xs) (length xs) le) (omega (arith, position-le passes xs))
    ]
