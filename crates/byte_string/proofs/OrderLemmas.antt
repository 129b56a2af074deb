-- Bytes that are compared several at a time, as the numbers that they spell.
use Rattle.std.proofs.Common.{◌≡◌, ℕ, zero, suc, ◌+◌, ◌*◌, ◌<◌, ◌≤◌, ◌≢◌, min, List, [], ◌∷◌, ◌++◌, length, get_or, take, drop, refl, sym, ap, subst, ◌∙◌, arith, w8, Fits, length-drop, take-append-drop, take-add, take-take, drop-cons, get_or-drop, nat_cmp, Ordering, Less, Equal, Greater}
use Rattle.std.specs.Cmp.{nat_cmp_is}
use Rattle.std.specs.Cmp.Lexicographic.{slice_cmp}
use Rattle.std.specs.Ordering.{ordering_then, MatchOrdering}
use Rattle.std.proofs.lemmas.Cmp.{nat_cmp_total, tied_itself, ranked}
use Rattle.byte_string.specs.Order.{big_endian}

abbrev Bytes : List ℕ → Type 0
Bytes xs = (k : ℕ) → Fits w8 (get_or xs k 0)

pub then_assoc : (p q r : Ordering) → ordering_then (ordering_then p q) r ≡ ordering_then p (ordering_then q r)
then_assoc Less q r = refl
then_assoc Equal q r = refl
then_assoc Greater q r = refl

-- one digit more
digit : (a b u v : ℕ) → u < 256 → v < 256 → (r s : Ordering) → r ≡ nat_cmp a b → s ≡ nat_cmp u v → ordering_then r s ≡ nat_cmp (a * 256 + u) (b * 256 + v)
digit a b u v p q r s e f = nat_cmp_is (a * 256 + u) (b * 256 + v) (ordering_then r s) (by r s (ranked a b r e) (ranked u v s f))
  where
    by : (r s : Ordering) → MatchOrdering r (a < b) (a ≡ b) (b < a) → MatchOrdering s (u < v) (u ≡ v) (v < u)
        → MatchOrdering (ordering_then r s) (a * 256 + u < b * 256 + v) (a * 256 + u ≡ b * 256 + v) (b * 256 + v < a * 256 + u)
    by Less s l m = let below : a < b = l in omega arith
    by Greater s l m = let above : b < a = l in omega arith
    by Equal Less l m = let same : a ≡ b = l in let below : u < v = m in omega arith
    by Equal Equal l m = let same : a ≡ b = l in let alike : u ≡ v = m in omega arith
    by Equal Greater l m = let same : a ≡ b = l in let above : v < u = m in omega arith

-- n bytes lie as the numbers that they spell, and where those are equal what is behind decides
spelled : (n : ℕ) (us vs : List ℕ) (a b : ℕ) → n ≤ length us → n ≤ length vs → Bytes us → Bytes vs
    → ordering_then (nat_cmp a b) (slice_cmp nat_cmp us vs)
    ≡ ordering_then (nat_cmp (big_endian a (take n us)) (big_endian b (take n vs))) (slice_cmp nat_cmp (drop n us) (drop n vs))
spelled zero us vs a b p q g h = refl
spelled (suc n) [] vs a b p q g h = absurd (omega arith)
spelled (suc n) (u ∷ us) [] a b p q g h = absurd (omega arith)
spelled (suc n) (u ∷ us) (v ∷ vs) a b p q g h =
    sym (then_assoc (nat_cmp a b) (nat_cmp u v) (slice_cmp nat_cmp us vs))
    ∙ ap (λ r. ordering_then r (slice_cmp nat_cmp us vs)) (digit a b u v (g 0).fits (h 0).fits _ _ refl refl)
    ∙ spelled n us vs (a * 256 + u) (b * 256 + v) (omega arith) (omega arith) (λ k. g (suc k)) (λ k. h (suc k))

-- bytes that spell the same number are the same
same : (n : ℕ) (us vs : List ℕ) (a b : ℕ) → n ≤ length us → n ≤ length vs → Bytes us → Bytes vs
    → big_endian a (take n us) ≡ big_endian b (take n vs) → (a ≡ b) × (take n us ≡ take n vs)
same zero us vs a b p q g h e = (e, refl)
same (suc n) [] vs a b p q g h e = absurd (omega arith)
same (suc n) (u ∷ us) [] a b p q g h e = absurd (omega arith)
same (suc n) (u ∷ us) (v ∷ vs) a b p q g h e =
    let both = same n us vs (a * 256 + u) (b * 256 + v) (omega arith) (omega arith) (λ k. g (suc k)) (λ k. h (suc k)) e in
    let digits : a * 256 + u ≡ b * 256 + v = both.0 in
    let low : u < 256 = (g 0).fits in
    let low_too : v < 256 = (h 0).fits in
    let first : u ≡ v = omega arith in
    (omega arith, λ j. first j ∷ both.1 j)

-- lists that begin alike lie as what is behind
past : (front xs ys : List ℕ) → slice_cmp nat_cmp (front ++ xs) (front ++ ys) ≡ slice_cmp nat_cmp xs ys
past [] xs ys = refl
past (x ∷ front) xs ys = ap (λ r. ordering_then r (slice_cmp nat_cmp (front ++ xs) (front ++ ys))) (tied_itself nat_cmp_total x) ∙ past front xs ys

past_alike : (i : ℕ) (xs ys : List ℕ) → take i xs ≡ take i ys → slice_cmp nat_cmp xs ys ≡ slice_cmp nat_cmp (drop i xs) (drop i ys)
past_alike i xs ys e =
    (λ j. slice_cmp nat_cmp (sym (take-append-drop i xs) j) (sym (take-append-drop i ys) j))
    ∙ ap (λ front. slice_cmp nat_cmp (take i xs ++ drop i xs) (front ++ drop i ys)) (sym e)
    ∙ past (take i xs) (drop i xs) (drop i ys)

pub fewer : (i j : ℕ) (xs ys : List ℕ) → i ≤ j → take j xs ≡ take j ys → take i xs ≡ take i ys
fewer i j xs ys le e = sym (take-take i j xs le) ∙ ap (take i) e ∙ take-take i j ys le

unequal : (x y : ℕ) (r o : Ordering) → r ≡ nat_cmp x y → x ≢ y → ordering_then r o ≡ r
unequal x y Less o e n = refl
unequal x y Equal o e n = absurd (n (ranked x y Equal e))
unequal x y Greater o e n = refl

-- n bytes of both from i on, read as x and y, where those before are alike
module _ (xs ys : List ℕ) (bx : Bytes xs) (by : Bytes ys) (i n x y : ℕ) (p : i + n ≤ length xs) (q : i + n ≤ length ys)
    (a : x ≡ big_endian 0 (take n (drop i xs))) (b : y ≡ big_endian 0 (take n (drop i ys))) (front : take i xs ≡ take i ys) where
  behind : (zs : List ℕ) → Bytes zs → Bytes (drop i zs)
  behind zs bz k = subst (Fits w8) (sym (get_or-drop i zs k 0)) (bz (i + k))

  pub alike_further : x ≡ y → take (i + n) xs ≡ take (i + n) ys
  alike_further e =
      let part = (same n (drop i xs) (drop i ys) 0 0 (omega (arith, length-drop i xs)) (omega (arith, length-drop i ys)) (behind xs bx) (behind ys by) (sym a ∙ e ∙ b)).1 in
      take-add i n xs ∙ (λ j. front j ++ part j) ∙ sym (take-add i n ys)

  pub decided : x ≢ y → slice_cmp nat_cmp xs ys ≡ nat_cmp x y
  decided ne =
      past_alike i xs ys front
      ∙ spelled n (drop i xs) (drop i ys) 0 0 (omega (arith, length-drop i xs)) (omega (arith, length-drop i ys)) (behind xs bx) (behind ys by)
      ∙ (λ j. ordering_then (nat_cmp (sym a j) (sym b j)) (slice_cmp nat_cmp (drop n (drop i xs)) (drop n (drop i ys))))
      ∙ unequal x y _ _ refl ne

-- lists that are alike as far as both go lie as their lengths
pub by_lengths : (xs ys : List ℕ) (n : ℕ) → n ≡ min (length xs) (length ys) → take n xs ≡ take n ys → slice_cmp nat_cmp xs ys ≡ nat_cmp (length xs) (length ys)
by_lengths xs ys n e front =
    past_alike n xs ys front
    ∙ rest (drop n xs) (drop n ys) (omega (arith, length-drop n xs, length-drop n ys)) (omega (arith, length-drop n xs, length-drop n ys)) (omega (arith, length-drop n xs, length-drop n ys))
  where
    rest : (zs ws : List ℕ) → min (length zs) (length ws) ≡ 0 → n + length zs ≡ length xs → n + length ws ≡ length ys → slice_cmp nat_cmp zs ws ≡ nat_cmp (length xs) (length ys)
    rest [] [] m f g = nat_cmp_is (length xs) (length ys) Equal (omega arith)
    rest [] (w ∷ ws) m f g = nat_cmp_is (length xs) (length ys) Less (omega arith)
    rest (z ∷ zs) [] m f g = nat_cmp_is (length xs) (length ys) Greater (omega arith)
    rest (z ∷ zs) (w ∷ ws) m f g = absurd (omega arith)

-- a byte is the number that it spells
pub one_is : (xs : List ℕ) (i : ℕ) → i < length xs → get_or xs i 0 ≡ big_endian 0 (take 1 (drop i xs))
one_is xs i le = omega arith ∙ sym (ap (λ l. big_endian 0 (take 1 l)) (drop-cons xs i 0 le))
