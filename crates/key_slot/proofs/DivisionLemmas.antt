-- What the long division does to sums and to longer dividends.
use Rattle.std.proofs.Common.{◌≡◌, refl, ap, ap₂, ◌∙◌, ℕ, zero, suc, ◌+◌, ◌-◌, ◌≤◌, Bool, true, false, List, [], ◌∷◌, ◌++◌, length, drop, replicate, arith, zero-add, suc-add}
use Rattle.key_slot.specs.Crc16.{divisor, sum_of, added_to_front, after_step, after_steps}

sum_of-left_comm : (a b c : Bool) → sum_of a (sum_of b c) ≡ sum_of b (sum_of a c)
sum_of-left_comm true true c = refl
sum_of-left_comm true false c = refl
sum_of-left_comm false true c = refl
sum_of-left_comm false false c = refl

sum_of-false : (a : Bool) → sum_of a false ≡ a
sum_of-false true = refl
sum_of-false false = refl

-- two polynomials are added in either order
pub added-left_comm : (p q r : List Bool) → added_to_front p (added_to_front q r) ≡ added_to_front q (added_to_front p r)
added-left_comm [] q r = refl
added-left_comm (a ∷ p) [] r = refl
added-left_comm (a ∷ p) (b ∷ q) [] = refl
added-left_comm (a ∷ p) (b ∷ q) (c ∷ r) = ap₂ (◌∷◌) (sum_of-left_comm a b c) (added-left_comm p q r)

pub length-added : (p q : List Bool) → length (added_to_front p q) ≡ length q
length-added [] q = refl
length-added (a ∷ p) [] = refl
length-added (a ∷ p) (b ∷ q) = ap suc (length-added p q)

-- what is added to the front leaves the rest as it is
pub added-append : (p q s : List Bool) → length p ≤ length q → added_to_front p (q ++ s) ≡ added_to_front p q ++ s
added-append [] q s h = refl
added-append (a ∷ p) [] s h = absurd (omega arith)
added-append (a ∷ p) (b ∷ q) s h = ap (λ r. sum_of a b ∷ r) (added-append p q s (omega arith))

added-behind_as_long : (p s z : List Bool) → added_to_front (replicate (length p) false ++ s) (p ++ z) ≡ p ++ added_to_front s z
added-behind_as_long [] s z = refl
added-behind_as_long (a ∷ p) s z = ap (λ r. a ∷ r) (added-behind_as_long p s z)

-- behind zeros it is added further back
pub added-behind : (n : ℕ) (p s z : List Bool) → n ≡ length p → added_to_front (replicate n false ++ s) (p ++ z) ≡ p ++ added_to_front s z
added-behind n p s z e = ap (λ k. added_to_front (replicate k false ++ s) (p ++ z)) e ∙ added-behind_as_long p s z

added-to_as_many_zeros : (p : List Bool) → added_to_front p (replicate (length p) false) ≡ p
added-to_as_many_zeros [] = refl
added-to_as_many_zeros (a ∷ p) = ap₂ (◌∷◌) (sum_of-false a) (added-to_as_many_zeros p)

-- to zeros it is added as it is
pub added-to_zeros : (n : ℕ) (p : List Bool) → n ≡ length p → added_to_front p (replicate n false) ≡ p
added-to_zeros n p e = ap (λ k. added_to_front p (replicate k false)) e ∙ added-to_as_many_zeros p

length-after_step : (p : List Bool) → length (after_step p) ≡ length p - 1
length-after_step [] = refl
length-after_step (true ∷ p) = length-added (drop 1 divisor) p ∙ omega arith
length-after_step (false ∷ p) = omega arith

pub length-after_steps : (n : ℕ) (p : List Bool) → length (after_steps n p) ≡ length p - n
length-after_steps zero p = omega arith
length-after_steps (suc n) p = length-after_steps n (after_step p) ∙ omega (arith, length-after_step p)

after_step-append : (p s : List Bool) → 17 ≤ length p → after_step (p ++ s) ≡ after_step p ++ s
after_step-append [] s h = absurd (omega arith)
after_step-append (true ∷ p) s h = added-append (drop 1 divisor) p s (omega arith)
after_step-append (false ∷ p) s h = refl

-- a step reads no more than 17 places
pub after_steps-append : (n : ℕ) (p s : List Bool) → n + 16 ≤ length p → after_steps n (p ++ s) ≡ after_steps n p ++ s
after_steps-append zero p s h = refl
after_steps-append (suc n) p s h =
    ap (after_steps n) (after_step-append p s (omega arith))
    ∙ after_steps-append n (after_step p) s (omega (arith, length-after_step p))

-- what is added behind the places that are left out is added to what is left
pub after_steps-behind : (n : ℕ) (s p : List Bool) → n ≤ length p → after_steps n (added_to_front (replicate n false ++ s) p) ≡ added_to_front s (after_steps n p)
after_steps-behind zero s p h = refl
after_steps-behind (suc n) s [] h = absurd (omega arith)
after_steps-behind (suc n) s (true ∷ p) h =
    ap (after_steps n) (added-left_comm (drop 1 divisor) (replicate n false ++ s) p)
    ∙ after_steps-behind n s (added_to_front (drop 1 divisor) p) (omega (arith, length-added (drop 1 divisor) p))
after_steps-behind (suc n) s (false ∷ p) h = after_steps-behind n s p (omega arith)

pub after_steps-add : (n m : ℕ) (p : List Bool) → after_steps (n + m) p ≡ after_steps m (after_steps n p)
after_steps-add zero m p = ap (λ k. after_steps k p) (zero-add m)
after_steps-add (suc n) m p = ap (λ k. after_steps k p) (suc-add n m) ∙ after_steps-add n m (after_step p)
