-- The last of a list, and those before it.
use Rattle.std.proofs.Common.{◌≡◌, ℕ, ◌<◌, ◌+◌, List, [], ◌∷◌, ◌++◌, length, take, slice_index_or, sym, ap, ◌∙◌, subst, ⊎_elim, arith}
use Rattle.std.proofs.Math.Nat.{eq-or-lt_of_le}
use Rattle.std.proofs.Math.Seq.{get_or-append_seam, take-append_seam}
use Rattle.std.proofs.lemmas.List.{get_or-take, length-append, length-take-le, take_at, take_more}

-- what holds of the last place and of those before it holds of each
pub last_or_before : (F : ℕ → Type 0) (count : ℕ) → F count → ((place : ℕ) → place < count → F place) → (place : ℕ) → place < count + 1 → F place
last_or_before F count last before place within = ⊎_elim (λ same. subst F (sym same) last) (before place) (eq-or-lt_of_le {n = place} {m = count} (omega (arith, within)))

-- what stands at the last place
pub last_of : {X : Type 0} (xs : List X) (x none : X) (count : ℕ) → length xs ≡ count → slice_index_or (xs ++ x ∷ []) count none ≡ x
last_of xs x none count is = subst (λ place. slice_index_or (xs ++ x ∷ []) place none ≡ x) is (get_or-append_seam xs x [] none)

-- the list without its last, and the last, where that list is the beginning of another
module _ {X : Type 0} (xs ys all : List X) (x none : X) (within : length xs < length all) (is : ys ≡ xs ++ x ∷ []) (taken : ys ≡ take (length ys) all) where
  one_more : xs ++ x ∷ [] ≡ take (length xs + 1) all
  one_more = sym is ∙ taken ∙ ap (λ count. take count all) (ap length is ∙ length-append xs (x ∷ []))

  pub taken_before : xs ≡ take (length xs) all
  taken_before = sym (take-append_seam xs (x ∷ [])) ∙ ap (take (length xs)) (one_more ∙ take_more all (length xs) none within) ∙ take_at (take (length xs) all) _ (length xs) (length-take-le (length xs) all (omega (arith, within)))

  pub taken_last : x ≡ slice_index_or all (length xs) none
  taken_last = sym (get_or-append_seam xs x [] none) ∙ ap (λ list. slice_index_or list (length xs) none) one_more ∙ get_or-take (length xs + 1) all (length xs) none (omega arith)
