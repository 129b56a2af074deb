use Rattle.std.proofs.Common.{◌+◌, add-zero, ◌≡◌, sym, ap, ap₂, ◌∙◌, ℕ, ◌*◌, ◌/◌, ◌%◌, [], ◌∷◌, bit_xor}
use Rattle.std.proofs.lemmas.Nat.{mod-pow-add, shl-shr}
use Rattle.std.proofs.Math.Nat.{mul-mod_left}
use Rattle.key_slot.specs.Crc16.{crc}
use Rattle.key_slot.proofs.CrcLemmas.{crc-push}
use Rattle.key_slot.proofs.crc16_table.with_byte.Goals as goal

-- the low byte, a byte further up
shifted : (r : ℕ) → r * 256 % 65536 ≡ r % 256 * 256
shifted r =
    mod-pow-add (r * 256) 8 8
    ∙ ap₂ (λ (x y : ℕ). x % 256 * 256 + y) (shl-shr r 8) (mul-mod_left r 256)
    ∙ add-zero (r % 256 * 256)

pub returns : goal.returns
returns c key is =
    ap₂ bit_xor (shifted c.args.register ∙ ap (λ (n : ℕ). n % 256 * 256) is)
    (c.crc_of_byte.ensures ∙ ap (λ n. crc (bit_xor (n / 256) c.args.byte ∷ [])) is)
    ∙ sym (crc-push key c.args.byte c.ranges.byte.fits)
