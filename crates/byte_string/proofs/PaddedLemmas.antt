-- The order of bytes that have zeros behind them, up to one length.
use Rattle.std.proofs.Common.{◌≡◌, ℕ, zero, suc, ◌<◌, ◌≤◌, List, [], ◌∷◌, length, get_or, take, refl, sym, ap, ◌∙◌, arith, nat_cmp, Ordering, Less, Equal, Greater}
use Rattle.std.specs.Cmp.{nat_cmp_is}
use Rattle.std.specs.Cmp.Lexicographic.{slice_cmp}
use Rattle.std.specs.Ordering.{ordering_then, MatchOrdering}
use Rattle.std.proofs.lemmas.Cmp.{ranked}
use Rattle.byte_string.proofs.OrderLemmas.{then_assoc}

-- behind the first n bytes are zeros
abbrev ZerosFrom : List ℕ → ℕ → Type 0
ZerosFrom xs n = (k : ℕ) → n ≤ k → get_or xs k 0 ≡ 0

behind : (x : ℕ) (xs : List ℕ) (n : ℕ) → ZerosFrom (x ∷ xs) (suc n) → ZerosFrom xs n
behind x xs n z k le = z (suc k) (omega arith)

behind_first : (x : ℕ) (xs : List ℕ) → ZerosFrom (x ∷ xs) 0 → ZerosFrom xs 0
behind_first x xs z k le = z (suc k) (omega arith)

zeros_alike : (xs ys : List ℕ) → length xs ≡ length ys → ZerosFrom xs 0 → ZerosFrom ys 0 → slice_cmp nat_cmp xs ys ≡ Equal
zeros_alike [] [] e z w = refl
zeros_alike [] (y ∷ ys) e z w = absurd (omega arith)
zeros_alike (x ∷ xs) [] e z w = absurd (omega arith)
zeros_alike (x ∷ xs) (y ∷ ys) e z w =
    let first : x ≡ 0 = z 0 (omega arith) in
    let other : y ≡ 0 = w 0 (omega arith) in
    ap (λ r. ordering_then r (slice_cmp nat_cmp xs ys)) (sym (nat_cmp_is x y Equal (omega arith)))
    ∙ zeros_alike xs ys (omega arith) (behind_first x xs z) (behind_first y ys w)

-- zeros come first, or are level with zeros
zeros_first : (xs ys : List ℕ) → length xs ≡ length ys → ZerosFrom xs 0 → ordering_then (slice_cmp nat_cmp xs ys) Less ≡ Less
zeros_first [] [] e z = refl
zeros_first [] (y ∷ ys) e z = absurd (omega arith)
zeros_first (x ∷ xs) [] e z = absurd (omega arith)
zeros_first (x ∷ xs) (y ∷ ys) e z = by (zeros_first xs ys (omega arith) (behind_first x xs z)) (nat_cmp x y) (ranked x y _ refl)
  where
    first : x ≡ 0
    first = z 0 (omega arith)

    by : ordering_then (slice_cmp nat_cmp xs ys) Less ≡ Less → (r : Ordering) → MatchOrdering r (x < y) (x ≡ y) (y < x) → ordering_then (ordering_then r (slice_cmp nat_cmp xs ys)) Less ≡ Less
    by rest Less h = refl
    by rest Equal h = rest
    by rest Greater h = let above : y < x = h in let is_zero = first in absurd (omega arith)

zeros_behind : (xs ys : List ℕ) → length xs ≡ length ys → ZerosFrom ys 0 → ordering_then (slice_cmp nat_cmp xs ys) Greater ≡ Greater
zeros_behind [] [] e z = refl
zeros_behind [] (y ∷ ys) e z = absurd (omega arith)
zeros_behind (x ∷ xs) [] e z = absurd (omega arith)
zeros_behind (x ∷ xs) (y ∷ ys) e z = by (zeros_behind xs ys (omega arith) (behind_first y ys z)) (nat_cmp x y) (ranked x y _ refl)
  where
    first : y ≡ 0
    first = z 0 (omega arith)

    by : ordering_then (slice_cmp nat_cmp xs ys) Greater ≡ Greater → (r : Ordering) → MatchOrdering r (x < y) (x ≡ y) (y < x) → ordering_then (ordering_then r (slice_cmp nat_cmp xs ys)) Greater ≡ Greater
    by rest Less h = let below : x < y = h in let is_zero = first in absurd (omega arith)
    by rest Equal h = rest
    by rest Greater h = refl

one_less : (m n : ℕ) (r : Ordering) → r ≡ nat_cmp m n → r ≡ nat_cmp (suc m) (suc n)
one_less m n r e = nat_cmp_is (suc m) (suc n) r (by r (ranked m n r e))
  where
    by : (r : Ordering) → MatchOrdering r (m < n) (m ≡ n) (n < m) → MatchOrdering r (suc m < suc n) (suc m ≡ suc n) (suc n < suc m)
    by Less h = let below : m < n = h in omega arith
    by Equal h = let level : m ≡ n = h in omega arith
    by Greater h = let above : n < m = h in omega arith

-- the whole lists decide, and where they are alike the numbers of bytes do
pub padded : (m n : ℕ) (xs ys : List ℕ) → length xs ≡ length ys → m ≤ length xs → n ≤ length ys → ZerosFrom xs m → ZerosFrom ys n
    → slice_cmp nat_cmp (take m xs) (take n ys) ≡ ordering_then (slice_cmp nat_cmp xs ys) (nat_cmp m n)
padded zero zero xs ys e p q z w = ap (λ r. ordering_then r (nat_cmp 0 0)) (sym (zeros_alike xs ys e z w))
padded zero (suc n) [] ys e p q z w = absurd (omega arith)
padded zero (suc n) (x ∷ xs) [] e p q z w = absurd (omega arith)
padded zero (suc n) (x ∷ xs) (y ∷ ys) e p q z w =
    sym (zeros_first (x ∷ xs) (y ∷ ys) e z) ∙ ap (ordering_then (slice_cmp nat_cmp (x ∷ xs) (y ∷ ys))) (nat_cmp_is 0 (suc n) Less (omega arith))
padded (suc m) zero [] ys e p q z w = absurd (omega arith)
padded (suc m) zero (x ∷ xs) ys e p q z w =
    sym (zeros_behind (x ∷ xs) ys e w) ∙ ap (ordering_then (slice_cmp nat_cmp (x ∷ xs) ys)) (nat_cmp_is (suc m) 0 Greater (omega arith))
padded (suc m) (suc n) [] ys e p q z w = absurd (omega arith)
padded (suc m) (suc n) (x ∷ xs) [] e p q z w = absurd (omega arith)
padded (suc m) (suc n) (x ∷ xs) (y ∷ ys) e p q z w =
    ap (ordering_then (nat_cmp x y)) (padded m n xs ys (omega arith) (omega arith) (omega arith) (behind x xs m z) (behind y ys n w))
    ∙ sym (then_assoc (nat_cmp x y) (slice_cmp nat_cmp xs ys) (nat_cmp m n))
    ∙ ap (ordering_then (slice_cmp nat_cmp (x ∷ xs) (y ∷ ys))) (one_less m n _ refl)

pub next_decides : (r o result : Ordering) (P : Type 0) → MatchOrdering r (result ≡ Less) P (result ≡ Greater) → (P → result ≡ o) → result ≡ ordering_then r o
next_decides Less o result P h f = h
next_decides Equal o result P h f = f h
next_decides Greater o result P h f = h
