use Rattle.std.proofs.Common.{◌≡◌, ◌++◌, drop}
use Rattle.slot_table.specs.Claims.{taken}
use Rattle.slot_table.proofs.merging.taken_slots.Given as goal

abbrev pub invariant-loop-run : goal.invariant-loop-run
invariant-loop-run l = l.slots.items ++ taken l.entries (drop l.run-index l.claim) l.owner ≡ taken l.entries l.claim l.owner
