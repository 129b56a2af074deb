use Rattle.std.proofs.Common.{◌≡◌, ◌<◌, ◌≤◌, ℕ, Option}
use Rattle.slot_table.specs.CutRuns.{AreRunsCutAt}
use Rattle.slot_table.proofs.PartLemmas.{Reached}
use Rattle.slot_table.proofs.changing.push_parts.Given as goal

abbrev pub invariant-loop-run : goal.invariant-loop-run
invariant-loop-run l =
    (value_at wanted : ℕ → Option ℕ) → AreRunsCutAt 16384 value_at l.runs → ((slot : ℕ) → l.start ≤ slot → slot < l.end → wanted slot ≡ value_at slot)
    → AreRunsCutAt l.start wanted l.initial.changed.items → Reached wanted l.start l.end l.runs l.run-index l.changed.items
