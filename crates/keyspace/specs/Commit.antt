-- How a commit makes several changes (ours). No public clause needs it.
--
-- It puts all values, for which memory may run out, and keeps what their keys had. Where memory has run out, what was kept is put back, from the last value on,
-- which adds no key. Else it then removes the keys that get no value.
use Rattle.std.specs.Prelude.{◌≡◌, ℕ, List, [], ◌∷◌, true, Option, is_some}
use Rattle.std.specs.FinMap as map
use Rattle.keyspace.specs.Changes.{change_each, with_all}
use Rattle.keyspace.specs.Keyspace.{Keyspace}
use Rattle.keyspace.specs.Putting.{with_pairs}
use Rattle.keyspace.specs.declared.value.Value.{Value}

-- the change removes its key, or the key is there
abbrev pub AddsNoKey : Keyspace → List ℕ → Option Value → Type 0
AddsNoKey keyspace key change = is_some change ≡ true → is_some (map.get keyspace key) ≡ true

-- so does each of the changes, which are made from the last one on
abbrev pub AddNoKeys : Keyspace → List (List ℕ × Option Value) → Type 0
AddNoKeys keyspace [] = Unit {0}
AddNoKeys keyspace (change ∷ changes) = AddNoKeys keyspace changes × AddsNoKey (change_each keyspace changes) change.0 change.1

-- the keyspace with none of the keys
abbrev pub without : Keyspace → List (List ℕ) → Keyspace
without keyspace [] = keyspace
without keyspace (key ∷ keys) = without (map.remove keyspace key) keys

-- to put the pairs and then to remove the keys is to make the changes
abbrev pub ArePartsOf : List (List ℕ × Option Value) → List (List ℕ × Value) → List (List ℕ) → Type 0
ArePartsOf changes pairs removed = (keyspace : Keyspace) → without (with_pairs keyspace pairs) removed ≡ with_all keyspace changes
