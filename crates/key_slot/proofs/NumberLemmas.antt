-- Bits and the numbers that they write.
use Rattle.std.proofs.Common.{◌≡◌, refl, sym, ap, ap₂, ◌∙◌, ℕ, zero, suc, ◌+◌, ◌*◌, ◌/◌, ◌%◌, ◌^◌, ◌<◌, ◌≤◌, ◌==◌, if◌then◌else◌, Bool, true, false, List, [], ◌∷◌, ◌++◌, length, bit_xor, arith, length-append, pow-add, pow-suc, mul_assoc, add-mul, zero-mul, subst, le_refl, mod-lt, lit<, one-add}
use Rattle.std.proofs.lemmas.Nat.{xor_block, shr_high, shl_below, mod-pow-add}
use Rattle.std.proofs.lemmas.Nat.Bits.{bit_at_cat_low}
use Rattle.std.proofs.Math.Nat.{mod-one}
use Rattle.key_slot.proofs.DivisionLemmas.{length-added}
use Rattle.key_slot.specs.Crc16.{sum_of, added_to_front, bits, number_of}

-- the element 1 is the number 1
abbrev digit : Bool → ℕ
digit b = if b then 1 else 0

digit-sum : (a b : Bool) → digit (sum_of a b) ≡ bit_xor (digit a) (digit b)
digit-sum true true = refl
digit-sum true false = refl
digit-sum false true = refl
digit-sum false false = refl

pub length-bits : (k n : ℕ) → length (bits k n) ≡ k
length-bits zero n = refl
length-bits (suc k) n = ap suc (length-bits k n)

pub number_of-lt : (p : List Bool) → number_of p < 2 ^ length p
number_of-lt [] = omega arith
number_of-lt (true ∷ p) = omega (arith, number_of-lt p, pow-suc 2 (length p))
number_of-lt (false ∷ p) = omega (arith, number_of-lt p, pow-suc 2 (length p))

pub number_of-append : (p q : List Bool) → number_of (p ++ q) ≡ number_of p * 2 ^ length q + number_of q
number_of-append [] q = omega arith
number_of-append (a ∷ p) q =
    ap₂ (λ (x y : ℕ). digit a * x + y) (ap (λ (n : ℕ). 2 ^ n) (length-append p q) ∙ pow-add 2 (length p) (length q)) (number_of-append p q)
    ∙ grind arith

digit-same : (b : Bool) → (digit b % 2 == 1) ≡ b
digit-same true = refl
digit-same false = refl

digit-odd : (n : ℕ) → n < 2 → digit (n == 1) ≡ n
digit-odd zero h = refl
digit-odd (suc zero) h = refl
digit-odd (suc (suc n)) h = absurd (omega arith)

shifted : (a : Bool) (n d j k : ℕ) → j + d ≡ k → (digit a * 2 ^ j + n) * 2 ^ d ≡ digit a * 2 ^ k + n * 2 ^ d
shifted a n d j k e =
    add-mul (digit a * 2 ^ j) n (2 ^ d)
    ∙ ap (λ (x : ℕ). x + n * 2 ^ d) (mul_assoc (digit a) (2 ^ j) (2 ^ d) ∙ ap (λ (x : ℕ). digit a * x) (sym (pow-add 2 j d) ∙ ap (λ (x : ℕ). 2 ^ x) e))

-- a sum of polynomials is an exclusive or
pub number_of-added : (d : ℕ) (p q : List Bool) → length p + d ≡ length q → number_of (added_to_front p q) ≡ bit_xor (number_of p * 2 ^ d) (number_of q)
number_of-added d [] q h = ap (λ (x : ℕ). bit_xor x (number_of q)) (sym (zero-mul (2 ^ d)))
number_of-added d (a ∷ p) [] h = absurd (omega arith)
number_of-added d (a ∷ p) (b ∷ q) h =
    let fits : length p + d ≡ length q = omega arith in
    let low : number_of p * 2 ^ d < 2 ^ length q = subst (λ (k : ℕ). number_of p * 2 ^ d < 2 ^ k) fits (shl_below (number_of p) (length p) d (number_of-lt p)) in
    ap₂ (λ (x y : ℕ). x + y) (ap₂ (λ (x y : ℕ). x * 2 ^ y) (digit-sum a b) (length-added p q)) (number_of-added d p q fits)
    ∙ sym (xor_block (length q) (digit a) (digit b) (number_of p * 2 ^ d) (number_of q) low (number_of-lt q))
    ∙ ap (λ (x : ℕ). bit_xor x (digit b * 2 ^ length q + number_of q)) (sym (shifted a (number_of p) d (length p) (length q) fits))

bits-low : (k j high low : ℕ) → k ≤ j → bits k (high * 2 ^ j + low) ≡ bits k low
bits-low zero j high low h = refl
bits-low (suc k) j high low h = ap₂ (◌∷◌) (ap (λ (x : ℕ). x == 1) (bit_at_cat_low high j low k (omega arith))) (bits-low k j high low (omega arith))

-- the number's bits are those that write it
pub bits-number_of : (p : List Bool) → bits (length p) (number_of p) ≡ p
bits-number_of [] = refl
bits-number_of (b ∷ p) =
    ap₂ (◌∷◌)
    (ap (λ (x : ℕ). x % 2 == 1) (shr_high (digit b) (length p) (number_of p) (number_of-lt p)) ∙ digit-same b)
    (bits-low (length p) (length p) (digit b) (number_of p) (le_refl (length p)) ∙ bits-number_of p)

-- the lowest k bits write what is left modulo 2^k
pub number_of-bits : (k n : ℕ) → number_of (bits k n) ≡ n % 2 ^ k
number_of-bits zero n = sym (mod-one n)
number_of-bits (suc k) n =
    ap₂ (λ (x y : ℕ). x + y)
    (ap₂ (λ (x y : ℕ). x * 2 ^ y) (digit-odd (n / 2 ^ k % 2) (mod-lt (n / 2 ^ k) (lit< tt))) (length-bits k n))
    (number_of-bits k n)
    ∙ sym (mod-pow-add n 1 k) ∙ ap (λ (x : ℕ). n % 2 ^ x) (one-add k)
