-- New values of keys that are decided and not put yet (ours).
use Rattle.std.specs.Prelude.{ℕ, List, [], ◌∷◌, Option, Some, None}
use Rattle.std.specs.BTreeMap.{BTreeMap}
use Rattle.std.specs.FinMap as map
use Rattle.std.specs.Ordering.{nat_cmp}
use Rattle.std.specs.Cmp.Lexicographic.{slice_cmp}
use Rattle.keyspace.specs.Keyspace.{Keyspace, changed}
use Rattle.keyspace.specs.declared.value.Value.{Value}
use Rattle.keyspace.specs.declared.value.Value.TheVariants.{Str}

-- the new value of each key that changes, or None where the key is removed
abbrev pub Changes : Type 0
Changes = map.FinMap (slice_cmp nat_cmp) (Option Value)

-- the changes in a list; of two at one key the first counts
abbrev pub changes_of : List (List ℕ × Option Value) → Changes
changes_of changes = map.from_entries changes

-- the changes in a map
abbrev pub changes_in : BTreeMap (List ℕ) (Option Value) → Changes
changes_in map = changes_of map.entries

-- all changes of a list made, from the last to the first
abbrev pub change_each : Keyspace → List (List ℕ × Option Value) → Keyspace
change_each keyspace [] = keyspace
change_each keyspace (change ∷ changes) = changed (change_each keyspace changes) change.0 change.1

-- the keyspace with all changes made
unfoldable pub applied : Keyspace → Changes → Keyspace
applied keyspace changes = change_each keyspace (map.entries changes)

-- the keyspace with all changes of a list made; of two at one key the first counts
abbrev pub with_all : Keyspace → List (List ℕ × Option Value) → Keyspace
with_all keyspace changes = applied keyspace (changes_of changes)

-- the changes with a string put at the key
abbrev pub with_string : Changes → List ℕ → List ℕ → Changes
with_string changes key bytes = map.insert changes key (Some (Str bytes))

-- the changes, of which at most one is kept apart
abbrev pub with_first : Option (List ℕ × Option Value) → Changes → Changes
with_first None more = more
with_first (Some change) more = map.insert more change.0 change.1
