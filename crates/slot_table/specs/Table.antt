-- The owners of the slots (Redis Cluster specification, "Clients first connection and handling of redirections",
-- "Hash slots configuration propagation").
use Rattle.std.specs.Prelude.{◌≡◌, ℕ, ◌<◌, ◌==◌, if◌then◌else◌, List, [], ◌∷◌, map, Option, Some, None, slice_index_or}
use Rattle.std.specs.List.{range_with_len}
use Rattle.key_slot.specs.SlotRange.{is_in}
use Rattle.key_slot.specs.declared.slots.SlotRange.{SlotRange}
use Rattle.slot_table.specs.declared.entry.SlotEntry.{SlotEntry}
use Rattle.slot_table.specs.declared.runs.Run.{Run}

-- what a table has of a slot
abbrev pub entry_at : List (Option SlotEntry) → ℕ → Option SlotEntry
entry_at table slot = slice_index_or table slot None

-- what each slot has, where that is how an entry is read
abbrev pub values_in : {T : Type 0} → (Option SlotEntry → Option T) → List (Option SlotEntry) → ℕ → Option T
values_in value_in table slot = value_in (entry_at table slot)

-- the owner of an entry
abbrev pub owner_in : Option SlotEntry → Option ℕ
owner_in None = None
owner_in (Some entry) = Some entry.owner

-- the owner of a slot
abbrev pub owner_at : List (Option SlotEntry) → ℕ → Option ℕ
owner_at table slot = owner_in (entry_at table slot)

-- the epoch of an entry, if it is this node's
abbrev pub epoch_in : ℕ → Option SlotEntry → Option ℕ
epoch_in node None = None
epoch_in node (Some entry) = if entry.owner == node then Some entry.epoch else None

-- the epoch in which the node claims a slot, if the slot is its own
abbrev pub claim_at : List (Option SlotEntry) → ℕ → ℕ → Option ℕ
claim_at table node slot = epoch_in node (entry_at table slot)

-- each slot of the range has what becomes of its entry, and all others have the entry that they had
abbrev pub ChangesIn : SlotRange → (Option SlotEntry → Option SlotEntry) → List (Option SlotEntry) → List (Option SlotEntry) → Type 0
ChangesIn slots becomes old new =
    (slot : ℕ) → slot < 16384 → entry_at new slot ≡ (if is_in slots slot then becomes (entry_at old slot) else entry_at old slot)

-- what a slot of that owner has at the start: epoch 1
abbrev pub entry_at_start : ℕ → SlotEntry
entry_at_start owner = record { epoch = 1; owner = owner }

-- what a slot has at the start, by the first run that has it
abbrev pub first_entry : List (Run ℕ) → ℕ → Option SlotEntry
first_entry [] slot = None
first_entry (run ∷ runs) slot = if is_in run.slots slot then Some (entry_at_start run.value) else first_entry runs slot

-- each slot has what it has at the start
abbrev pub HasFirstEntries : List (Run ℕ) → List (Option SlotEntry) → Type 0
HasFirstEntries owners table = (slot : ℕ) → slot < 16384 → entry_at table slot ≡ first_entry owners slot

-- the table at the start: the slots from 0 to 16383
unfoldable pub first_table : List (Run ℕ) → List (Option SlotEntry)
first_table owners = map (first_entry owners) (range_with_len 0 16384)
