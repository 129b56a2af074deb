-- Rows with a place for each node, and counts.
use Rattle.std.proofs.Common.{◌≡◌, ◌≢◌, ◌<◌, ◌==◌, ◌∙◌, sym, subst, ℕ, Bool, true, false, zero, suc, ◌+◌, List, [], ◌∷◌, ◌++◌, All, refl, ap, ap₂, add-one, cond, if◌then◌else◌}
use Rattle.std.proofs.lemmas.Bool.{eqb-false, eqb-true}
use Rattle.std.proofs.lemmas.List.{get_or-set_other, get_or-set_same}
use Rattle.std.proofs.lemmas.List.Elements.{All-head, All-tail}
use Rattle.std.proofs.lemmas.List.Sums.{sum_by-cons}
use Rattle.std.specs.Prelude.{count_by, length, map, take, drop, slice_set, slice_index_or}

-- ---- a loop that changes place by place

-- one more place is changed; past the end none is
mapped_suc : {A : Type 0} (f : A → A) (xs : List A) (at : ℕ) (default : A) →
    slice_set (map f (take at xs) ++ drop at xs) at (f (slice_index_or xs at default)) ≡ map f (take (suc at) xs) ++ drop (suc at) xs
mapped_suc f [] zero default = refl
mapped_suc f [] (suc at) default = refl
mapped_suc f (x ∷ xs) zero default = refl
mapped_suc f (x ∷ xs) (suc at) default = ap (λ ys. f x ∷ ys) (mapped_suc f xs at default)

pub one_more_mapped : {A : Type 0} (f : A → A) (xs : List A) (at : ℕ) (default : A) →
    slice_set (map f (take at xs) ++ drop at xs) at (f (slice_index_or xs at default)) ≡ map f (take (at + 1) xs) ++ drop (at + 1) xs
one_more_mapped f xs at default = rw add-one (mapped_suc f xs at default)

-- ---- one place

-- a place that is set, by the test whether it is that one
pub at_set : {A : Type 0} (xs : List A) (i j : ℕ) (a d : A) (same : Bool) → (i == j) ≡ same → j < length xs
    → slice_index_or (slice_set xs i a) j d ≡ (if same then a else slice_index_or xs j d)
at_set xs i j a d true is below =
    let e : i ≡ j = eqb-true i j is in
    let at : i < length xs = subst (λ k. k < length xs) (sym e) below in
    subst (λ k. slice_index_or (slice_set xs i a) k d ≡ a) e (get_or-set_same xs i a d at)
at_set xs i j a d false is below =
    let other : j ≢ i = λ e. eqb-false i j is (sym e) in
    get_or-set_other xs i j a d other

-- ---- counts

-- tests that agree count alike
pub count_agree : (p q : ℕ → Bool) (xs : List ℕ) → All (λ x. p x ≡ q x) xs → count_by p xs ≡ count_by q xs
count_agree p q [] agree = refl
count_agree p q (x ∷ xs) agree =
    sum_by-cons (λ it. cond (p it) 1 0) x xs
    ∙ (ap₂ (λ (b : Bool) (n : ℕ). cond b 1 0 + n) (All-head (λ it. p it ≡ q it) x xs agree) (count_agree p q xs (All-tail (λ it. p it ≡ q it) x xs agree))
    ∙ sym (sum_by-cons (λ it. cond (q it) 1 0) x xs))
