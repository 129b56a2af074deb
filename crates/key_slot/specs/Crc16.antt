-- The CRC16 of a key: the remainder of a division of polynomials over two elements
-- (Redis Cluster specification, "Appendix A: CRC16 reference implementation in ANSI C").
-- A polynomial is the list of its coefficients, that of the highest power first.
use Rattle.std.specs.Prelude.{◌≡◌, ℕ, zero, suc, ◌+◌, ◌-◌, ◌*◌, ◌/◌, ◌%◌, ◌^◌, ◌==◌, Bool, true, false, not, if◌then◌else◌, List, [], ◌∷◌, ◌++◌, length, drop, flat_map, replicate}

-- ---- polynomials

-- x^16 + x^12 + x^5 + 1
abbrev pub divisor : List Bool
divisor = true ∷ false ∷ false ∷ false ∷ true ∷ false ∷ false ∷ false ∷ false ∷ false ∷ false ∷ true ∷ false ∷ false ∷ false ∷ false ∷ true ∷ []

-- the sum of two elements, which is their difference too
abbrev pub sum_of : Bool → Bool → Bool
sum_of true b = not b
sum_of false b = b

-- the polynomial q, with p added to its leading places
abbrev pub added_to_front : List Bool → List Bool → List Bool
added_to_front (a ∷ p) (b ∷ q) = sum_of a b ∷ added_to_front p q
added_to_front [] q = q
added_to_front (a ∷ p) [] = []

-- the polynomial q, times the divisor
abbrev pub divisor_times : List Bool → List Bool
divisor_times [] = replicate 16 false
divisor_times (true ∷ q) = added_to_front divisor (false ∷ divisor_times q)
divisor_times (false ∷ q) = false ∷ divisor_times q

-- the dividend is the quotient times the divisor, plus a remainder in the 16 places below x^16
pub record IsRemainder (dividend remainder : List Bool) : Type 0 where
  pub quotient : List Bool
  pub sum : dividend ≡ added_to_front (replicate (length quotient) false ++ remainder) (divisor_times quotient)
  pub places : length remainder ≡ 16

-- ---- bytes

-- the lowest k bits of n, the highest of them first
abbrev pub bits : ℕ → ℕ → List Bool
bits zero n = []
bits (suc k) n = (n / 2 ^ k % 2 == 1) ∷ bits k n

-- the number with these bits
abbrev pub number_of : List Bool → ℕ
number_of [] = 0
number_of (b ∷ p) = (if b then 1 else 0) * 2 ^ length p + number_of p

-- the bits of the key's bytes, times x^16
abbrev pub dividend_of : List ℕ → List Bool
dividend_of key = flat_map (bits 8) key ++ replicate 16 false

-- the number is the remainder that the key leaves
pub record IsCrc (key : List ℕ) (crc : ℕ) : Type 0 where
  pub remainder : List Bool
  pub left : IsRemainder (dividend_of key) remainder
  pub number : crc ≡ number_of remainder

-- ---- the same by long division

-- a step: a leading 1 is cancelled by the divisor, and the leading place is left out
abbrev pub after_step : List Bool → List Bool
after_step (true ∷ p) = drop 1 (added_to_front divisor (true ∷ p))
after_step (false ∷ p) = p
after_step [] = []

-- what n steps leave
abbrev pub after_steps : ℕ → List Bool → List Bool
after_steps zero p = p
after_steps (suc n) p = after_steps n (after_step p)

-- the 16 places that the division leaves
abbrev pub remainder_of : List Bool → List Bool
remainder_of p = after_steps (length p - 16) p

-- the CRC16 of a key, as a function
unfoldable pub crc : List ℕ → ℕ
crc key = number_of (remainder_of (dividend_of key))
