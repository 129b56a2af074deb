-- The keyspace (Redis documentation, "Redis keyspace": keys are any bytes, each with one value).
use Rattle.std.specs.Prelude.{◌≡◌, ℕ, Bool, if◌then◌else◌, List, [], ◌∷◌, ◌++◌, Option, Some, None}
use Rattle.std.specs.FinMap as map
use Rattle.std.specs.Ordering.{nat_cmp}
use Rattle.std.specs.Cmp.Lexicographic.{slice_cmp}
use Rattle.hash.specs.Pairs.{Pairs, Changes, fields_changed}
use Rattle.key_map.specs.KeyMap.{KeyMap}
use Rattle.keyspace.specs.declared.value.Value.{Value}
use Rattle.keyspace.specs.declared.value.Value.TheVariants.{Str, Hash}

-- a finite map from keys to values, in the order of the keys' bytes
abbrev pub Keyspace : Type 0
Keyspace = map.FinMap (slice_cmp nat_cmp) Value

-- the keyspace of these keys and values; of two at one key the first counts
abbrev pub keyspace_of : List (List ℕ × Value) → Keyspace
keyspace_of entries = map.from_entries entries

-- the keyspace that a map keeps
abbrev pub keyspace_in : KeyMap Value → Keyspace
keyspace_in map = keyspace_of map.entries

-- one key changed: it gets the value, or is removed
abbrev pub changed : Keyspace → List ℕ → Option Value → Keyspace
changed keyspace key (Some value) = map.insert keyspace key value
changed keyspace key None = map.remove keyspace key

-- the hash with these fields; one without fields is gone
abbrev pub hash_of : Pairs → Option Value
hash_of [] = None
hash_of (pair ∷ pairs) = Some (Hash (pair ∷ pairs))

-- the value once its fields were changed: a missing hash begins with no fields, and a string stays
abbrev pub fields_left : Option Value → Changes → Option Value
fields_left None changes = hash_of (fields_changed [] changes)
fields_left (Some (Hash pairs)) changes = hash_of (fields_changed pairs changes)
fields_left (Some (Str bytes)) changes = Some (Str bytes)

-- the fields of one key changed
abbrev pub with_fields : Keyspace → List ℕ → Changes → Keyspace
with_fields keyspace key changes = changed keyspace key (fields_left (map.get keyspace key) changes)

-- in a map the fields of one key are changed
abbrev pub ChangesFields : KeyMap Value → KeyMap Value → List ℕ → Changes → Type 0
ChangesFields old new key changes = keyspace_in new ≡ with_fields (keyspace_in old) key changes

-- the changes leave this value of another one, or none where it isn't left
abbrev pub LeavesValue : Value → Value → Changes → Bool → Type 0
LeavesValue old new changes is_left = fields_left (Some old) changes ≡ (if is_left then Some new else None)

-- APPEND: the value once bytes were put behind it: a missing string begins empty, and a hash stays
abbrev pub appended : Option Value → List ℕ → Value
appended None bytes = Str bytes
appended (Some (Str string)) bytes = Str (string ++ bytes)
appended (Some (Hash pairs)) bytes = Hash pairs

-- bytes put behind the string at one key
abbrev pub with_appended : Keyspace → List ℕ → List ℕ → Keyspace
with_appended keyspace key bytes = map.insert keyspace key (appended (map.get keyspace key) bytes)
