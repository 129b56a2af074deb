use Rattle.std.proofs.Common.{◌≡◌, false, ◌<◌, ◌&&◌, nat_lt, ℕ, length, Some, if◌then◌else◌}
use Rattle.key_slot.specs.SlotRange.{is_in}
use Rattle.slot_table.specs.Table.{entry_at}
use Rattle.slot_table.specs.Claims.{greater}
use Rattle.slot_table.proofs.merging.take.Given as goal

abbrev pub invariant-loop-at : goal.invariant-loop-at
invariant-loop-at l = record {
  whole : length l.entries ≡ 16384;
  each : (slot : ℕ) → slot < 16384 → entry_at l.entries slot ≡ (if is_in l.fn.slots slot && nat_lt slot l.at then greater (entry_at l.initial.entries slot) (Some l.claim) else entry_at l.initial.entries slot);
  stays : l.changed ≡ false → l.entries ≡ l.initial.entries;
}
