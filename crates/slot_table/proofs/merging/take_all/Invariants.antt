use Rattle.std.proofs.Common.{◌≡◌, false, ◌<◌, ℕ, length, drop}
use Rattle.slot_table.specs.Table.{entry_at}
use Rattle.slot_table.specs.Claims.{greater, claimed}
use Rattle.slot_table.proofs.KnownLemmas.{SaysNothing}
use Rattle.slot_table.proofs.merging.take_all.Given as goal

abbrev pub invariant-loop-run : goal.invariant-loop-run
invariant-loop-run l = record {
  whole : length l.entries ≡ 16384;
  known : SaysNothing l.entries l.known l.owner;
  each : (slot : ℕ) → slot < 16384 → greater (entry_at l.entries slot) (claimed (drop l.run-index l.claim) l.owner slot) ≡ greater (entry_at l.initial.entries slot) (claimed l.claim l.owner slot);
  stays : l.changed ≡ false → l.entries ≡ l.initial.entries;
}
