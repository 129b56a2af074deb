-- Sums over lists, and how often a number is in a list.
use Rattle.std.proofs.Common.{◌≡◌, ℕ, zero, suc, ◌+◌, ◌*◌, ◌^◌, ◌<◌, ◌≤◌, Bool, true, false, List, [], ◌∷◌, ◌++◌, length, set, cond, eqb, All, sym, ap, refl, arith}
use Rattle.std.proofs.lemmas.Bool.Decides.{nat_tests}
use Rattle.std.proofs.lemmas.List.Elements.{All-nil, All-cons}
use mathlib.Core.Option.{some, some-injective, some-ne-none}
use lib.ListN.{get_elem?}
use Rattle.tickets.specs.Tickets.{total, times, once_below}

module _ {A : Type 0} (f : A → ℕ) where
  -- one element is replaced
  pub total-set : (xs : List A) (i : ℕ) (x y : A) → get_elem? xs i ≡ some x → total f (set xs i y) + f x ≡ total f xs + f y
  total-set [] i x y at = absurd (some-ne-none x (sym at))
  total-set (z ∷ zs) zero x y at = let same : f z ≡ f x = ap f (some-injective z x at) in omega arith
  total-set (z ∷ zs) (suc i) x y at = let rest = total-set zs i x y at in omega arith

  -- one element is added
  pub total-snoc : (xs : List A) (x : A) → total f (xs ++ x ∷ []) ≡ total f xs + f x
  total-snoc [] x = omega arith
  total-snoc (z ∷ zs) x = let rest = total-snoc zs x in omega arith

  -- an element has k more than before
  pub total-more : (xs : List A) (i : ℕ) (x y : A) (k : ℕ) → get_elem? xs i ≡ some x → f y ≡ f x + k → total f (set xs i y) ≡ total f xs + k
  total-more xs i x y k at more = let now = total-set xs i x y at in omega arith

  -- an element gives a part of what it has to a new one
  pub total-split : (xs : List A) (i : ℕ) (x left right : A) → get_elem? xs i ≡ some x → f left + f right ≡ f x → total f (set xs i left ++ right ∷ []) ≡ total f xs
  total-split xs i x left right at parts = let now = total-set xs i x left at in let new = total-snoc (set xs i left) right in omega arith

  -- an element takes what another has
  pub total-join : (xs : List A) (i j : ℕ) (x y both none : A) → get_elem? xs i ≡ some x → get_elem? (set xs i both) j ≡ some y → f both ≡ f x + f y → f none ≡ 0 → total f (set (set xs i both) j none) ≡ total f xs
  total-join xs i j x y both none at there sum nothing = let first = total-set xs i x both at in let second = total-set (set xs i both) j y none there in omega arith

  -- an element has no more than all
  pub total-at : (xs : List A) (i : ℕ) (x : A) → get_elem? xs i ≡ some x → f x ≤ total f xs
  total-at [] i x at = absurd (some-ne-none x (sym at))
  total-at (z ∷ zs) zero x at = let same : f z ≡ f x = ap f (some-injective z x at) in omega arith
  total-at (z ∷ zs) (suc i) x at = let rest = total-at zs i x at in omega arith

  -- where each element has at most 2^48 for each g, so have all
  pub total-le : (g : A → ℕ) (xs : List A) → ((i : ℕ) (x : A) → get_elem? xs i ≡ some x → f x ≤ g x * 2 ^ 48) → total f xs ≤ total g xs * 2 ^ 48
  total-le g [] each = omega arith
  total-le g (z ∷ zs) each = let here = each 0 z refl in let rest = total-le g zs (λ i x at. each (suc i) x at) in omega arith

-- a number is in a list no more often than the list is long
times-le : (x : ℕ) (xs : List ℕ) → times x xs ≤ length xs
times-le x [] = omega arith
times-le x (y ∷ ys) = let rest = times-le x ys in let one = at_most_one (eqb x y) in omega arith
  where
    at_most_one : (b : Bool) → cond b 1 0 ≤ 1
    at_most_one true = omega arith
    at_most_one false = omega arith

-- no list has a number more often than it is long, so neither have all
pub total-times : {A : Type 0} (f : A → List ℕ) (x : ℕ) (xs : List A) → total (λ a. times x (f a)) xs ≤ total (λ a. length (f a)) xs
total-times f x [] = omega arith
total-times f x (z ∷ zs) = let here = times-le x (f z) in let rest = total-times f x zs in omega arith

-- a number is in two lists as often as in each together
pub times-append : (x : ℕ) (xs ys : List ℕ) → times x (xs ++ ys) ≡ times x xs + times x ys
times-append x [] ys = omega arith
times-append x (z ∷ zs) ys = let rest = times-append x zs ys in omega arith

-- the numbers below n + 1 are those below n, and n
pub once_below-next : (x n : ℕ) → once_below x (n + 1) ≡ once_below x n + times x (n ∷ [])
once_below-next x n = grind (arith, nat_tests)

-- what counts once is below
once_below-positive : (x n : ℕ) → 1 ≤ once_below x n → x < n
once_below-positive x n h = grind (arith, nat_tests)

-- a list has its head
times-head : (x : ℕ) (xs : List ℕ) → 1 ≤ times x (x ∷ xs)
times-head x xs = grind (arith, nat_tests)

-- where no number is in a list more often than among those below n, all of it are below n
pub all_below : (n : ℕ) (xs : List ℕ) → ((x : ℕ) → times x xs ≤ once_below x n) → All (λ x. x < n) xs
all_below n [] each = All-nil (λ x. x < n)
all_below n (y ∷ ys) each =
    All-cons (λ x. x < n) y ys
    (let here = times-head y ys in let there = each y in once_below-positive y n (omega arith))
    (all_below n ys (λ x. let there = each x in omega arith))
