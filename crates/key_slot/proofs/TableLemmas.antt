-- The table of 256 entries holds the CRC16 of each byte.
use Rattle.std.proofs.Common.{◌≡◌, refl, sym, ap, inl, inr, ◌∙◌, ℕ, zero, suc, ◌<◌, Bool, true, ◌&&◌, nat_eq, eqb-true, [], ◌∷◌, get_or, arith}
use Rattle.std.proofs.lemmas.Bool.{and_parts, cases_eq}
use Rattle.key_slot.specs.Crc16.{crc}
use Rattle.key_slot.specs.declared.crc16_table.TheConstants.{CRC_OF_BYTE}

-- the entries below n are right
abbrev are_right_below : ℕ → Bool
are_right_below zero = true
are_right_below (suc n) = nat_eq (get_or CRC_OF_BYTE n 0) (crc (n ∷ [])) && are_right_below n

right_below : (n b : ℕ) → are_right_below n ≡ true → b < n → get_or CRC_OF_BYTE b 0 ≡ crc (b ∷ [])
right_below zero b t h = absurd (omega arith)
right_below (suc n) b t h =
    let parts = and_parts (nat_eq (get_or CRC_OF_BYTE n 0) (crc (n ∷ []))) (are_right_below n) t in
    elim (cases_eq b n) [
      | inl same ↦ ap (λ k. get_or CRC_OF_BYTE k 0) same ∙ eqb-true _ _ parts.0 ∙ ap (λ k. crc (k ∷ [])) (sym same)
      | inr other ↦ right_below n b parts.1 (omega arith)
    ]

all_right : are_right_below 256 ≡ true
unfolding crc
all_right = refl

pub entry : (b : ℕ) → b < 256 → get_or CRC_OF_BYTE b 0 ≡ crc (b ∷ [])
entry b h = right_below 256 b all_right h
