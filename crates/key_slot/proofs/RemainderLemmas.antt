-- The long division leaves the remainder, and there is no other.
use Rattle.std.proofs.Common.{◌≡◌, refl, sym, ap, ap₂, ◌∙◌, ℕ, zero, suc, ◌+◌, ◌-◌, ◌≤◌, Bool, true, false, List, [], ◌∷◌, ◌++◌, length, drop, replicate, flat_map, arith, length-append}
use Rattle.key_slot.specs.Crc16.{divisor, sum_of, added_to_front, divisor_times, IsRemainder, dividend_of, bits, number_of, IsCrc, after_steps, remainder_of, crc}
use Rattle.key_slot.proofs.DivisionLemmas.{added-left_comm, length-added, added-to_zeros, length-after_steps}

sum_of-twice : (a b : Bool) → sum_of a (sum_of a b) ≡ b
sum_of-twice true true = refl
sum_of-twice true false = refl
sum_of-twice false b = refl

-- what is added twice is gone
added-twice : (p q : List Bool) → added_to_front p (added_to_front p q) ≡ q
added-twice [] q = refl
added-twice (a ∷ p) [] = refl
added-twice (a ∷ p) (b ∷ q) = ap₂ (◌∷◌) (sum_of-twice a b) (added-twice p q)

length-divisor_times : (q : List Bool) → length (divisor_times q) ≡ length q + 16
length-divisor_times [] = refl
length-divisor_times (true ∷ q) = ap suc (length-added (drop 1 divisor) (divisor_times q)) ∙ omega (arith, length-divisor_times q)
length-divisor_times (false ∷ q) = omega (arith, length-divisor_times q)

-- the divisor times q, and r added in the last places
abbrev sum_at : ℕ → List Bool → List Bool → List Bool
sum_at n r q = added_to_front (replicate n false ++ r) (divisor_times q)

-- n steps take the places of a quotient off
divided : (n : ℕ) (p : List Bool) → length p ≡ n + 16 → (q : List Bool) × (length q ≡ n) × (p ≡ sum_at n (after_steps n p) q)
divided zero p e = ([], refl, sym (added-to_zeros 16 p (omega arith)))
divided (suc n) [] e = absurd (omega arith)
divided (suc n) (true ∷ p) e =
    let rest : List Bool = added_to_front (drop 1 divisor) p in
    let d = divided n rest (length-added (drop 1 divisor) p ∙ omega arith) in (
      true ∷ d.0,
      ap suc d.1,
      ap (λ s. true ∷ s)
          (sym (added-twice (drop 1 divisor) p)
          ∙ ap (added_to_front (drop 1 divisor)) d.2
          ∙ added-left_comm (drop 1 divisor) (replicate n false ++ after_steps n rest) (divisor_times d.0)),
    )
divided (suc n) (false ∷ p) e =
    let d = divided n p (omega arith) in
    (false ∷ d.0, ap suc d.1, ap (λ s. false ∷ s) d.2)

-- as many steps as the quotient has places leave what was added
steps-sum_at : (q r : List Bool) → length r ≡ 16 → after_steps (length q) (sum_at (length q) r q) ≡ r
steps-sum_at [] r e = added-to_zeros 16 r (sym e)
steps-sum_at (true ∷ q) r e =
    let low : List Bool = replicate (length q) false ++ r in
    ap (after_steps (length q))
    (ap (added_to_front (drop 1 divisor)) (added-left_comm low (drop 1 divisor) (divisor_times q))
    ∙ added-twice (drop 1 divisor) (added_to_front low (divisor_times q)))
    ∙ steps-sum_at q r e
steps-sum_at (false ∷ q) r e = steps-sum_at q r e

IsRemainder-remainder_of : (p : List Bool) → 16 ≤ length p → IsRemainder p (remainder_of p)
IsRemainder-remainder_of p h =
    let n : ℕ = length p - 16 in
    let d = divided n p (omega arith) in
    record {
      quotient = d.0;
      sum = d.2 ∙ ap (λ k. sum_at k (remainder_of p) d.0) (sym d.1);
      places = length-after_steps n p ∙ omega arith;
    }

remainder_of-only : (p r : List Bool) → IsRemainder p r → r ≡ remainder_of p
remainder_of-only p r is =
    let q : List Bool = is.quotient in
    let long : length p ≡ length q + 16 =
    ap length is.sum ∙ length-added (replicate (length q) false ++ r) (divisor_times q) ∙ length-divisor_times q in
    let count : length q ≡ length p - 16 = omega arith in
    sym (steps-sum_at q r is.places) ∙ ap (after_steps (length q)) (sym is.sum) ∙ ap (λ k. after_steps k p) count

-- the function gives the CRC16
pub IsCrc-crc : (key : List ℕ) → IsCrc key (crc key)
unfolding crc
IsCrc-crc key =
    let p : List Bool = dividend_of key in
    record {
      remainder = remainder_of p;
      left = IsRemainder-remainder_of p (omega (arith, length-append (flat_map (bits 8) key) (replicate 16 false)));
      number = refl;
    }

-- a key has one CRC16
pub crc-only : (key : List ℕ) (other : ℕ) → IsCrc key other → other ≡ crc key
unfolding crc
crc-only key other is = is.number ∙ ap number_of (remainder_of-only (dividend_of key) is.remainder is.left)
