-- The longest runs of slots with one value, cut off at a bound (Redis command reference, "CLUSTER SLOTS").
use Rattle.std.specs.Prelude.{◌≡◌, ◌≢◌, ◌+◌, ◌<◌, ◌≤◌, ◌==◌, ◌&&◌, ℕ, Bool, List, Option, Some, None, All, IsTrue, if◌then◌else◌}
use Rattle.std.specs.List.{Any, AllPairs}
use Rattle.key_slot.specs.SlotRange.{is_in}
use Rattle.slot_table.specs.declared.runs.Run.{Run}

-- the values, but for one slot
abbrev pub with_value : (ℕ → Option ℕ) → ℕ → Option ℕ → ℕ → Option ℕ
with_value value_at slot own at = if at == slot then own else value_at at

-- each slot of the run has the value; the slot before the first doesn't, nor the one behind the last if that is below the bound
pub record IsRunCutAt (bound : ℕ) (value_at : ℕ → Option ℕ) (run : Run ℕ) : Type 0 where
  pub some : run.slots.first ≤ run.slots.last
  pub within : run.slots.last < bound
  pub inside : (slot : ℕ) → IsTrue (is_in run.slots slot) → value_at slot ≡ Some run.value
  pub before : (slot : ℕ) → slot + 1 ≡ run.slots.first → value_at slot ≢ Some run.value
  pub behind : run.slots.last + 1 < bound → value_at (run.slots.last + 1) ≢ Some run.value

-- all runs of the slots below the bound, in rising order, as if no slot from there on had a value
pub record AreRunsCutAt (bound : ℕ) (value_at : ℕ → Option ℕ) (runs : List (Run ℕ)) : Type 0 where
  pub each : All (IsRunCutAt bound value_at) runs
  pub rising : AllPairs (λ run next. run.slots.last < next.slots.first) runs
  pub complete : (slot value : ℕ) → slot < bound → value_at slot ≡ Some value → Any (λ run. IsTrue (is_in run.slots slot)) runs

-- the first slots with a value from the bound on are those of the run, or begin with these, and they have its value
pub record AreNext (bound : ℕ) (value_at : ℕ → Option ℕ) (run : Run ℕ) : Type 0 where
  pub from : bound ≤ run.slots.first
  pub some : run.slots.first ≤ run.slots.last
  pub between : (slot : ℕ) → bound ≤ slot → slot < run.slots.first → value_at slot ≡ None
  pub inside : (slot : ℕ) → IsTrue (is_in run.slots slot) → value_at slot ≡ Some run.value

-- runs that are cut off at the start go on to the end, where the values wanted from start to end are those of the given runs
abbrev pub TakesOver : List (Run ℕ) → ℕ → ℕ → List (Run ℕ) → List (Run ℕ) → Type 0
TakesOver runs start end old new =
    (value_at wanted : ℕ → Option ℕ) → AreRunsCutAt 16384 value_at runs → ((slot : ℕ) → start ≤ slot → slot < end → wanted slot ≡ value_at slot)
    → AreRunsCutAt start wanted old → AreRunsCutAt end wanted new

-- where the old runs are those of some values, the new ones are those of the same values but for the slot
abbrev pub ChangesValue : ℕ → Option ℕ → List (Run ℕ) → List (Run ℕ) → Type 0
ChangesValue slot own old new =
    (value_at : ℕ → Option ℕ) → AreRunsCutAt 16384 value_at old → AreRunsCutAt 16384 (with_value value_at slot own) new

-- runs that are cut off at the slot take it in, where it has that value, or none
abbrev pub AddsSlot : ℕ → Option ℕ → List (Run ℕ) → List (Run ℕ) → Type 0
AddsSlot slot own old new =
    (value_at : ℕ → Option ℕ) → AreRunsCutAt slot value_at old → value_at slot ≡ own → AreRunsCutAt (slot + 1) value_at new

-- runs that are cut off at a bound go on to the end of the next run
abbrev pub AddsRun : Run ℕ → List (Run ℕ) → List (Run ℕ) → Type 0
AddsRun next old new =
    (bound : ℕ) (value_at : ℕ → Option ℕ) → AreRunsCutAt bound value_at old → AreNext bound value_at next
    → AreRunsCutAt (next.slots.last + 1) value_at new

-- a run begins right behind another one, and has the same value
abbrev pub continues : Run ℕ → Run ℕ → Bool
continues next run = run.slots.last + 1 == next.slots.first && run.value == next.value
