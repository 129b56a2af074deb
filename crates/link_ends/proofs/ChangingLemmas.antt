-- A list whose elements are changed from the last on.
use Rattle.std.proofs.Common.{◌≡◌, ℕ, zero, suc, ◌<◌, ◌≤◌, List, [], ◌∷◌, length, map, set, slice_index_or, refl, ap, arith}

module _ {X : Type 0} (f : X → X) where
  -- the list with each element changed from that place on
  abbrev pub changed_from : ℕ → List X → List X
  changed_from zero xs = map f xs
  changed_from (suc place) [] = []
  changed_from (suc place) (x ∷ xs) = x ∷ changed_from place xs

  -- behind its end nothing is changed
  pub changed_none : (place : ℕ) (xs : List X) → length xs ≤ place → changed_from place xs ≡ xs
  changed_none zero [] within = refl
  changed_none zero (x ∷ xs) within = absurd (omega (arith, within))
  changed_none (suc place) [] within = refl
  changed_none (suc place) (x ∷ xs) within = ap (λ rest. x ∷ rest) (changed_none place xs (omega (arith, within)))

  -- the element before is as it was
  pub changed_at : (place : ℕ) (xs : List X) (none : X) → slice_index_or (changed_from (suc place) xs) place none ≡ slice_index_or xs place none
  changed_at place [] none = refl
  changed_at zero (x ∷ xs) none = refl
  changed_at (suc place) (x ∷ xs) none = changed_at place xs none

  -- that element is changed too
  pub changed_more : (place : ℕ) (xs : List X) (none : X) → place < length xs
      → set (changed_from (suc place) xs) place (f (slice_index_or xs place none)) ≡ changed_from place xs
  changed_more place [] none within = absurd (omega (arith, within))
  changed_more zero (x ∷ xs) none within = refl
  changed_more (suc place) (x ∷ xs) none within = ap (λ rest. x ∷ rest) (changed_more place xs none (omega (arith, within)))
