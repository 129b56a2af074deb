use Rattle.std.proofs.Common.{◌≡◌, ◌∙◌, ap, subst, sym, ℕ, ◌%◌}
use Rattle.key_slot.specs.Crc16.{IsCrc}
use Rattle.key_slot.proofs.hash_slot.slot.Goals as goal

pub returns-clause-only : goal.returns-clause-only
returns-clause-only c other is =
    let same : is.tag ≡ c.tag.result.now = c.tag.ensures.only is.tag is.is_tag in
    let checksum : is.checksum ≡ c.crc16.result = c.crc16.ensures.only is.checksum (subst (λ t. IsCrc t is.checksum) same is.is_crc) in
    is.modulo ∙ ap (λ (n : ℕ). n % 16384) checksum ∙ sym c.of_crc.ensures
