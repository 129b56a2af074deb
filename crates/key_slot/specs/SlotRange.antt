-- Ranges of slots (Redis command reference, "CLUSTER SLOTS").
use Rattle.std.specs.Prelude.{ℕ, ◌&&◌, nat_le, Bool}
use Rattle.key_slot.specs.declared.slots.SlotRange.{SlotRange}

-- the slot is one of the range
abbrev pub is_in : SlotRange → ℕ → Bool
is_in range slot = nat_le range.first slot && nat_le slot range.last
