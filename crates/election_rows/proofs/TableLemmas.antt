-- A table that is changed slot by slot.
use Rattle.std.proofs.Common.{◌≡◌, ◌<◌, ◌≤◌, ◌+◌, ◌++◌, ◌∙◌, ℕ, zero, suc, List, [], ◌∷◌, length, map, refl, ap, arith}
use Rattle.std.proofs.lemmas.List.Edits.{map_over_more}
use Rattle.std.specs.Prelude.{drop, slice_index_or, slice_set, take}

-- all were changed
pub all_mapped : {A : Type 0} (f : A → A) (xs : List A) (n : ℕ) → length xs ≤ n → map f (take n xs) ++ drop n xs ≡ map f xs
all_mapped f [] zero past = refl
all_mapped f [] (suc n) past = refl
all_mapped f (x ∷ xs) zero past = absurd (omega (arith, past))
all_mapped f (x ∷ xs) (suc n) past = ap (λ rest. f x ∷ rest) (all_mapped f xs n (omega (arith, past)))

own_default : {A : Type 0} (xs : List A) (i : ℕ) (d : A) → slice_index_or xs i d ≡ slice_index_or xs i (slice_index_or xs i d)
own_default [] i d = refl
own_default (x ∷ xs) zero d = refl
own_default (x ∷ xs) (suc i) d = own_default xs i d

-- one more was
pub one_more : {A : Type 0} (f : A → A) (first table after : List A) (place at : ℕ) (none entry : A) → place < length first → at ≡ place → table ≡ map f (take place first) ++ drop place first
    → entry ≡ f (slice_index_or table at none) → after ≡ slice_set table at entry → after ≡ map f (take (place + 1) first) ++ drop (place + 1) first
one_more f first table after place at none entry below same so_far is sets =
    sets ∙ ap (slice_set table at) is ∙ ap (λ i. slice_set table i (f (slice_index_or table i none))) same
    ∙ map_over_more f first table place (slice_index_or table place none) below so_far (own_default table place none)
