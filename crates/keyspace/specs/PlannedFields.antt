-- Changes of the fields of one hash, as a plan keeps them (ours). No public clause needs it.
use Rattle.std.specs.Prelude.{◌≡◌, ◌-◌, ℕ, nat_eq, Bool, false, List, length, slice_get, Option, Some, None, is_some}
use Rattle.std.specs.Cmp.Lexicographic.{pointwise}
use Rattle.std.specs.List.{IsDistinct}
use Rattle.std.specs.Map.{keys_of}
use Rattle.hash.specs.Pairs.{Pairs, Changes, HasDistinctFields, fields_changed}
use Rattle.keyspace.specs.Hashes.{removals}

-- a change sets a field
abbrev pub is_set : Option (List ℕ × Option (List ℕ)) → Bool
is_set None = false
is_set (Some change) = is_some change.1

-- the last change does
abbrev pub sets_last : Changes → Bool
sets_last changes = is_set (slice_get changes (length changes - 1))

-- each change removes a field that no other one names
pub record RemovesEach (changes : Changes) : Type 0 where
  pub removes : changes ≡ removals (keys_of changes)
  pub distinct : IsDistinct (pointwise nat_eq) (keys_of changes)

-- to make the changes is to remove these fields
abbrev pub RemoveFields : List (List ℕ) → Changes → Type 0
RemoveFields fields changes = (pairs : Pairs) → HasDistinctFields pairs → fields_changed pairs changes ≡ fields_changed pairs (removals fields)

-- the changes remove fields, each one once, or the last one sets a field
abbrev pub IsPlanned : Changes → Type 0
IsPlanned changes = sets_last changes ≡ false → RemovesEach changes
