-- Which keys are there once changes are made (ours). No public clause needs it.
use Rattle.std.specs.Prelude.{◌≡◌, IsTrue, ℕ, nat_eq, nat_lt, List, Bool, false, not, ◌&&◌, Option, Some, None, is_some}
use Rattle.std.specs.Cmp.Lexicographic.{pointwise}
use Rattle.std.specs.FinMap as map
use Rattle.std.specs.List.{list_any}
use Rattle.std.specs.Map.{keys_of}
use Rattle.keyspace.specs.Changes.{Changes, applied}
use Rattle.keyspace.specs.Keyspace.{Keyspace}
use Rattle.keyspace.specs.declared.value.Value.{Value}

-- a key is there
abbrev pub has_keys : Keyspace → Bool
has_keys keyspace = nat_lt 0 (map.len keyspace)

-- the keyspace without the key that is gone, if there is one
abbrev pub beside : Option (List ℕ) → Keyspace → Keyspace
beside None keyspace = keyspace
beside (Some key) keyspace = map.remove keyspace key

-- a key other than the one that is gone is there once the changes are made
abbrev pub leaves_beside : Option (List ℕ) → Keyspace → Changes → Bool
leaves_beside gone keyspace changes = has_keys (beside gone (applied keyspace changes))

-- the key is the one that is gone
abbrev pub is_gone : Option (List ℕ) → List ℕ → Bool
is_gone None key = false
is_gone (Some gone) key = pointwise nat_eq gone key

-- the change of a key, if there is one, puts a value
abbrev pub is_put : Option (Option Value) → Bool
is_put None = false
is_put (Some value) = is_some value

-- a value is put at the key, which isn't gone
abbrev pub puts_beside : Changes → Option (List ℕ) → List ℕ → Bool
puts_beside changes gone key = not (is_gone gone key) && is_put (map.get changes key)

-- a value is put at one of these keys that isn't gone
abbrev pub any_put : Changes → Option (List ℕ) → List (List ℕ × Option Value) → Bool
any_put changes gone entries = list_any (puts_beside changes gone) (keys_of entries)

-- in every keyspace the changes leave a key other than the one that is gone
abbrev pub AlwaysLeave : Changes → Option (List ℕ) → Type 0
AlwaysLeave changes gone = (keyspace : Keyspace) → IsTrue (leaves_beside gone keyspace changes)

-- no value is put at a key other than the one that is gone
abbrev pub PutNone : Changes → Option (List ℕ) → Type 0
PutNone changes gone = (key : List ℕ) → puts_beside changes gone key ≡ false

-- the key isn't changed, and it isn't gone
abbrev pub stays_beside : Changes → Option (List ℕ) → List ℕ → Bool
stays_beside changes gone key = not (is_gone gone key) && not (is_some (map.get changes key))

-- one of these keys isn't changed, and it isn't gone
abbrev pub any_stays : Changes → Option (List ℕ) → List (List ℕ × Value) → Bool
any_stays changes gone entries = list_any (stays_beside changes gone) (keys_of entries)
