-- The definitions at keys whose values are known from elsewhere.
use Rattle.std.proofs.Common.{◌≡◌, refl, codes}
use Rattle.key_slot.specs.Crc16.{crc}
use Rattle.key_slot.specs.HashTag.{hash_tag}
use Rattle.key_slot.specs.Slot.{hash_slot}

crc-check_value : crc (codes "123456789") ≡ 0x31c3
unfolding crc
crc-check_value = refl

hash_slot-empty : hash_slot (codes "") ≡ 0
unfolding crc hash_tag hash_slot
hash_slot-empty = refl

hash_slot-foo : hash_slot (codes "foo") ≡ 12182
unfolding crc hash_tag hash_slot
hash_slot-foo = refl

hash_slot-empty_braces : hash_slot (codes "foo{}{bar}") ≡ 8363
unfolding crc hash_tag hash_slot
hash_slot-empty_braces = refl

hash_slot-first_braces : hash_slot (codes "foo{bar}{zap}") ≡ 5061
unfolding crc hash_tag hash_slot
hash_slot-first_braces = refl

hash_slot-two_braces : hash_slot (codes "foo{{bar}}zap") ≡ 4015
unfolding crc hash_tag hash_slot
hash_slot-two_braces = refl

hash_slot-unclosed : hash_slot (codes "{bar") ≡ 4015
unfolding crc hash_tag hash_slot
hash_slot-unclosed = refl
