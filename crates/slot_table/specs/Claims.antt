-- Claims to slots (Redis Cluster specification, "Hash slots configuration propagation": the greater epoch counts. That of
-- two claims with one epoch the greater owner counts is this project's own rule).
use Rattle.std.specs.Prelude.{◌≡◌, ◌<◌, ◌+◌, ◌-◌, ◌==◌, ◌&&◌, ◌||◌, not, nat_lt, ℕ, Bool, true, false, if◌then◌else◌, List, [], ◌∷◌, map, filter, Option, Some, None}
use Rattle.std.specs.List.{range_with_len, AllPairs}
use Rattle.key_slot.specs.SlotRange.{is_in}
use Rattle.key_slot.specs.declared.slots.SlotRange.{SlotRange}
use Rattle.slot_table.specs.declared.entry.SlotEntry.{SlotEntry}
use Rattle.slot_table.specs.declared.runs.Run.{Run}
use Rattle.slot_table.specs.Table.{entry_at}

-- any claim is above none, then the greater epoch is above, and of two equal epochs the greater owner
abbrev pub is_above : SlotEntry → Option SlotEntry → Bool
is_above claim None = true
is_above claim (Some known) = nat_lt known.epoch claim.epoch || known.epoch == claim.epoch && nat_lt known.owner claim.owner

-- the greater of two claims to a slot
abbrev pub greater : Option SlotEntry → Option SlotEntry → Option SlotEntry
greater known None = known
greater known (Some claim) = if is_above claim known then Some claim else known

-- the claim to a slot, if there is one, is above what is known
abbrev pub is_taken : Option SlotEntry → Option SlotEntry → Bool
is_taken known None = false
is_taken known (Some claim) = is_above claim known

-- each run of a claim ends before the later ones begin
abbrev pub IsRising : List (Run ℕ) → Type 0
IsRising claim = AllPairs (λ run next. run.slots.last < next.slots.first) claim

-- what a node claims of a slot: the slot for itself, in the epoch of the run that has the slot
abbrev pub claimed : List (Run ℕ) → ℕ → ℕ → Option SlotEntry
claimed [] owner slot = None
claimed (run ∷ runs) owner slot = if is_in run.slots slot then Some (record { epoch = run.value; owner = owner }) else claimed runs owner slot

-- the claim to the same slots, each of them in that epoch
abbrev pub in_epoch : ℕ → List (Run ℕ) → List (Run ℕ)
in_epoch epoch claim = map (λ (run : Run ℕ). record { slots = run.slots; value = epoch }) claim

-- the slots of the range whose entry the claim is above, in rising order
abbrev pub slots_below : List (Option SlotEntry) → SlotEntry → SlotRange → List ℕ
slots_below table claim range =
    filter (λ slot. is_above claim (entry_at table slot)) (range_with_len range.first (range.last + 1 - range.first))

-- each slot has the greater of what the old table has and what is claimed
abbrev pub HasGreater : List (Option SlotEntry) → List (Run ℕ) → ℕ → List (Option SlotEntry) → Type 0
HasGreater old claim owner new =
    (slot : ℕ) → slot < 16384 → entry_at new slot ≡ greater (entry_at old slot) (claimed claim owner slot)

-- the slots that the claim takes, in rising order
unfoldable pub taken : List (Option SlotEntry) → List (Run ℕ) → ℕ → List ℕ
taken table claim owner = filter (λ slot. is_taken (entry_at table slot) (claimed claim owner slot)) (range_with_len 0 16384)

-- each slot has the greater of what the table has and what is claimed
unfoldable pub merged : List (Option SlotEntry) → List (Run ℕ) → ℕ → List (Option SlotEntry)
merged table claim owner = map (λ slot. greater (entry_at table slot) (claimed claim owner slot)) (range_with_len 0 16384)

-- two entries have one epoch and one owner
abbrev pub is_same : Option SlotEntry → Option SlotEntry → Bool
is_same None None = true
is_same (Some entry) (Some other) = entry.epoch == other.epoch && entry.owner == other.owner
is_same entry other = false

-- the slots whose entry changed, in rising order
unfoldable pub changed : List (Option SlotEntry) → List (Option SlotEntry) → List ℕ
changed old new = filter (λ slot. not (is_same (entry_at old slot) (entry_at new slot))) (range_with_len 0 16384)

-- merging a claim again changes nothing
abbrev pub MergingAgainChangesNothing : Type 0
MergingAgainChangesNothing = (table : List (Option SlotEntry)) (claim : List (Run ℕ)) (owner : ℕ) → merged (merged table claim owner) claim owner ≡ merged table claim owner

-- the order in which two claims are merged doesn't matter
abbrev pub OrderOfClaimsIsFree : Type 0
OrderOfClaimsIsFree = (table : List (Option SlotEntry)) (claim next : List (Run ℕ)) (owner other : ℕ) → merged (merged table claim owner) next other ≡ merged (merged table next other) claim owner
