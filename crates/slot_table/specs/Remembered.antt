-- What a table remembers beside its entries (ours). Nobody sees it: it spares a look at each slot where nothing has changed.
use Rattle.std.specs.Prelude.{◌≡◌, ◌≤◌, ℕ, ⊤, List, [], Option, Some, None, length, get_or, slice_set}
use Rattle.slot_table.specs.declared.entry.SlotEntry.{SlotEntry}
use Rattle.slot_table.specs.declared.runs.Run.{Run}
use Rattle.slot_table.specs.Claims.{IsRising, merged}
use Rattle.slot_table.specs.Runs.{runs_of}
use Rattle.slot_table.specs.Table.{claim_at}

-- the claim of a node once the slot has that entry, or none
abbrev pub claim_with : List (Option SlotEntry) → ℕ → Option SlotEntry → ℕ → List (Run ℕ)
claim_with table slot entry node = runs_of (claim_at (slice_set table slot entry) node)

-- the claim of a node, as the table has it
abbrev pub IsKept : List (Option SlotEntry) → Option (ℕ × List (Run ℕ)) → Type 0
IsKept table None = ⊤
IsKept table (Some kept) = kept.1 ≡ runs_of (claim_at table kept.0)

-- of each node a claim, if there is one, that says nothing new
abbrev pub AreKnown : List (Option SlotEntry) → List (Option (List (Run ℕ))) → Type 0
AreKnown table known = (owner : ℕ) (claim : List (Run ℕ)) → get_or known owner None ≡ Some claim → merged table claim owner ≡ table

-- all slots of a run are slots of the other one, with the same value
pub record LiesIn (run other : Run ℕ) : Type 0 where
  pub from : other.slots.first ≤ run.slots.first
  pub to : run.slots.last ≤ other.slots.last
  pub same : run.value ≡ other.value

-- the runs of the claim, or none
abbrev pub KnownRuns : Option (List (Run ℕ)) → List (Run ℕ) → Type 0
KnownRuns None runs = runs ≡ []
KnownRuns (Some claim) runs = (runs ≡ claim) × IsRising claim

-- a table of all slots, and what it remembers
pub record IsWhole (table : List (Option SlotEntry)) (own : Option (ℕ × List (Run ℕ))) (known : List (Option (List (Run ℕ)))) : Type 0 where
  pub slots : length table ≡ 16384
  pub nodes : length known ≡ 16
  pub kept : IsKept table own
  pub says : AreKnown table known
