use Rattle.std.proofs.Common.{◌≡◌, take}
use Rattle.key_slot.specs.Crc16.{crc}
use Rattle.key_slot.proofs.crc16_table.crc16.Given as goal

abbrev pub invariant-loop-byte : goal.invariant-loop-byte
invariant-loop-byte l = l.register ≡ crc (take l.byte-index l.bytes)
