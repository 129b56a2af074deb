-- The longest runs of neighbouring slots with one value (Redis command reference, "CLUSTER SLOTS").
use Rattle.std.specs.Prelude.{◌≡◌, ◌≢◌, ◌+◌, ◌<◌, ◌≤◌, ◌==◌, not, zero, suc, ℕ, Bool, true, false, List, map, filter, zip, Option, Some, None, unwrap_or, All, IsTrue}
use Rattle.std.specs.List.{Any, AllPairs, range_with_len}
use Rattle.key_slot.specs.SlotRange.{is_in}
use Rattle.slot_table.specs.declared.runs.Run.{Run}

-- the slot has a value, and its neighbour has another or none
abbrev pub is_edge : Option ℕ → Option ℕ → Bool
is_edge None neighbour = false
is_edge (Some value) None = true
is_edge (Some value) (Some other) = not (value == other)

-- what the slot before this one has; before slot 0 there is none
abbrev pub value_before : (ℕ → Option ℕ) → ℕ → Option ℕ
value_before value_at zero = None
value_before value_at (suc slot) = value_at slot

-- the first slots of the runs: each has a value that the slot before hasn't
abbrev pub firsts : (ℕ → Option ℕ) → List ℕ
firsts value_at = filter (λ slot. is_edge (value_at slot) (value_before value_at slot)) (range_with_len 0 16384)

-- the last slots of the runs: each has a value that the slot behind hasn't
abbrev pub lasts : (ℕ → Option ℕ) → List ℕ
lasts value_at = filter (λ slot. is_edge (value_at slot) (value_at (slot + 1))) (range_with_len 0 16384)

-- the slots from a first to a last one, with the value of the first
abbrev pub run_between : (ℕ → Option ℕ) → ℕ × ℕ → Run ℕ
run_between value_at (first, last) = record { slots = record { first = first; last = last }; value = unwrap_or (value_at first) 0 }

-- the longest runs of slots with one value, in rising order: each first slot with the last one of the same place in its list
unfoldable pub runs_of : (ℕ → Option ℕ) → List (Run ℕ)
runs_of value_at = map (run_between value_at) (zip (firsts value_at) (lasts value_at))

-- each slot from the first to the last has the value, and neither the slot before nor the one behind
pub record IsRun {T : Type 0} (value_at : ℕ → Option T) (run : Run T) : Type 0 where
  pub some : run.slots.first ≤ run.slots.last
  pub inside : (slot : ℕ) → IsTrue (is_in run.slots slot) → value_at slot ≡ Some run.value
  pub before : (slot : ℕ) → slot + 1 ≡ run.slots.first → value_at slot ≢ Some run.value
  pub behind : value_at (run.slots.last + 1) ≢ Some run.value

-- each is a run, they rise, and each slot below the bound that has a value is in one of them
pub record AreRunsBelow {T : Type 0} (bound : ℕ) (value_at : ℕ → Option T) (runs : List (Run T)) : Type 0 where
  pub each : All (IsRun value_at) runs
  pub rising : AllPairs (λ run next. run.slots.last < next.slots.first) runs
  pub complete : (slot : ℕ) (value : T) → slot < bound → value_at slot ≡ Some value → Any (λ run. IsTrue (is_in run.slots slot)) runs

-- all runs of the slots with these values, in rising order
abbrev pub AreRunsOf : {T : Type 0} → (ℕ → Option T) → List (Run T) → Type 0
AreRunsOf value_at runs = AreRunsBelow 16384 value_at runs

-- each slot from the first one to before the end has the value
abbrev pub HaveValue : {T : Type 0} → (ℕ → Option T) → T → ℕ → ℕ → Type 0
HaveValue value_at value first end = (slot : ℕ) → first ≤ slot → slot < end → value_at slot ≡ Some value
