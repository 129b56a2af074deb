-- The hash slot of a key (Redis Cluster specification, "Key distribution model").
use Rattle.std.specs.Prelude.{◌≡◌, ℕ, ◌%◌, List}
use Rattle.key_slot.specs.Crc16.{IsCrc, crc}
use Rattle.key_slot.specs.HashTag.{IsTagOf, hash_tag}

-- the CRC16 of the key's tag, modulo the number of slots
pub record IsSlotOf (key : List ℕ) (slot : ℕ) : Type 0 where
  pub tag : List ℕ
  pub checksum : ℕ
  pub is_tag : IsTagOf key tag
  pub is_crc : IsCrc tag checksum
  pub modulo : slot ≡ checksum % 16384

-- the same as a function
unfoldable pub hash_slot : List ℕ → ℕ
hash_slot key = crc (hash_tag key) % 16384
