-- Elements that pass a test, and majorities of one list.
use Rattle.std.proofs.Common.{◌≡◌, ◌≤◌, ◌+◌, ◌⊎◌, ℕ, zero, suc, List, [], ◌∷◌, ◌++◌, Bool, true, false, cond, Contains, length, refl, ap, inl, inr, arith}
use Rattle.std.proofs.lemmas.Bool.{both_ways, true_from_ne_false}
use Rattle.std.proofs.lemmas.List.Elements.{Contains-append_cases, Contains-append_right}
use Rattle.std.proofs.lemmas.List.Sums.{sum_by-cons, sum_by-le-sum_by}
use Rattle.std.specs.List.{list_any}
use Rattle.std.specs.Prelude.{◌||◌, count_by, slice_index_or, slice_set, replicate}
use Rattle.world_run.proofs.Lists.{contains_first, contains_more, no_element}

-- ---- tests

-- an element that passes the test
pub record Passes {X : Type 0} (test : X → Bool) (xs : List X) : Type 0 where
  pub it : X
  pub among : Contains xs it
  pub is : test it ≡ true

first_or_later : {X : Type 0} (test : X → Bool) (x : X) (xs : List X) → (list_any test xs ≡ true → Passes test xs) → (b : Bool) → test x ≡ b → (b || list_any test xs) ≡ true → Passes test (x ∷ xs)
first_or_later test x xs later true passes is = record { it = x; among = contains_first x xs; is = passes }
first_or_later test x xs later false fails is = let rest = later is in record { it = rest.it; among = contains_more x rest.it xs rest.among; is = rest.is }

pub any_from : {X : Type 0} (test : X → Bool) (xs : List X) → list_any test xs ≡ true → Passes test xs
any_from test [] is = absurd (both_ways false refl is)
any_from test (x ∷ xs) is = first_or_later test x xs (any_from test xs) (test x) refl is

pub any_of : {X : Type 0} (test : X → Bool) (xs : List X) (x : X) → Contains xs x → test x ≡ true → list_any test xs ≡ true
any_of test xs x among is = true_from_ne_false (list_any test xs) (λ none. both_ways (test x) (no_element test xs x none among) is)

-- of more elements
pub any_of_more : {X : Type 0} (test : X → Bool) (xs ys : List X) → ((x : X) → Contains xs x → Contains ys x) → list_any test xs ≡ true → list_any test ys ≡ true
any_of_more test xs ys more is = let found = any_from test xs is in any_of test ys found.it (more found.it found.among) found.is

pub any_cases : {X : Type 0} (test : X → Bool) (xs ys : List X) → list_any test (xs ++ ys) ≡ true → (list_any test xs ≡ true) ⊎ (list_any test ys ≡ true)
any_cases test xs ys is =
    let found = any_from test (xs ++ ys) is in
    elim (Contains-append_cases xs ys found.it found.among) [
      | inl here ↦ inl (any_of test xs found.it here found.is)
      | inr there ↦ inr (any_of test ys found.it there found.is)
    ]

pub any_right : {X : Type 0} (test : X → Bool) (xs ys : List X) → list_any test ys ≡ true → list_any test (xs ++ ys) ≡ true
any_right test xs ys is = any_of_more test ys (xs ++ ys) (λ x among. Contains-append_right xs ys x among) is

-- ---- counts

one_at_most : (p q : Bool) → (p ≡ true → q ≡ true) → cond p 1 0 ≤ cond q 1 0
one_at_most true true more = omega arith
one_at_most true false more = absurd (both_ways false refl (more refl))
one_at_most false true more = omega arith
one_at_most false false more = omega arith

-- a wider test passes as many
pub count_more : {X : Type 0} (p q : X → Bool) (xs : List X) → ((x : X) → p x ≡ true → q x ≡ true) → count_by p xs ≤ count_by q xs
count_more p q xs more = sum_by-le-sum_by (λ x. cond (p x) 1 0) (λ x. cond (q x) 1 0) xs (λ x. one_at_most (p x) (q x) (more x))

one_of_two : (p q : Bool) → (p ≡ true → q ≡ true → ⊥) → cond p 1 0 + cond q 1 0 ≤ 1
one_of_two true true apart = absurd (apart refl refl)
one_of_two true false apart = omega arith
one_of_two false true apart = omega arith
one_of_two false false apart = omega arith

-- two tests that no element passes both share the list
pub count_share : {X : Type 0} (p q : X → Bool) (xs : List X) → ((x : X) → p x ≡ true → q x ≡ true → ⊥) → count_by p xs + count_by q xs ≤ length xs
count_share p q [] apart = omega arith
count_share p q (x ∷ xs) apart =
    let rest : count_by p xs + count_by q xs ≤ length xs = count_share p q xs apart in
    let first : cond (p x) 1 0 + cond (q x) 1 0 ≤ 1 = one_of_two (p x) (q x) (apart x) in
    let one = sum_by-cons (λ y. cond (p y) 1 0) x xs in
    let other = sum_by-cons (λ y. cond (q y) 1 0) x xs in
    omega (arith, rest, first, one, other)

-- ---- rows

-- who stands in a row that one more entered
pub entered : (row : List Bool) (i j : ℕ) → slice_index_or (slice_set row i true) j false ≡ true → (j ≡ i) ⊎ (slice_index_or row j false ≡ true)
entered [] i j is = inr is
entered (b ∷ row) zero zero is = inl refl
entered (b ∷ row) zero (suc j) is = inr is
entered (b ∷ row) (suc i) zero is = inr is
entered (b ∷ row) (suc i) (suc j) is =
    elim (entered row i j is) [
      | inl same ↦ inl (ap suc same)
      | inr before ↦ inr before
    ]

-- nobody stands in an empty one
pub nobody_entered : (n j : ℕ) → slice_index_or (replicate n false) j false ≡ true → ⊥
nobody_entered zero j is = both_ways false refl is
nobody_entered (suc n) zero is = both_ways false refl is
nobody_entered (suc n) (suc j) is = nobody_entered n j is
