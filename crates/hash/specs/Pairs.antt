-- The fields of a hash and their values (Redis' commands HGET, HSET, HDEL, HGETALL).
use Rattle.std.specs.Prelude.{ℕ, List, Bool, Option, None, Some, if◌then◌else◌, nat_eq, fold}
use Rattle.std.specs.Cmp.Lexicographic.{pointwise}
use Rattle.std.specs.List.{IsDistinct}
use Rattle.std.specs.Map.{keys_of, lookup, remove_entry}
use Rattle.indexmap.specs.IndexMap.{insert_entry}

-- each field with its value, in the order of HGETALL
abbrev pub Pairs : Type 0
Pairs = List (List ℕ × List ℕ)

-- the value of the field, as HGET answers it
abbrev pub value_of : Pairs → List ℕ → Option (List ℕ)
value_of pairs field = lookup (pointwise nat_eq field) pairs

-- no field stands twice
abbrev pub HasDistinctFields : Pairs → Type 0
HasDistinctFields pairs = IsDistinct (pointwise nat_eq) (keys_of pairs)

-- HSET: a field that is there keeps its place, a new one comes last. HDEL, with no value: the others keep their order
abbrev pub field_changed : Pairs → List ℕ → Option (List ℕ) → Pairs
field_changed pairs field (Some value) = insert_entry (pointwise nat_eq) pairs field value
field_changed pairs field None = remove_entry (pointwise nat_eq field) pairs

-- HSET of one field
abbrev pub field_set : Pairs → List ℕ → List ℕ → Pairs
field_set pairs field value = field_changed pairs field (Some value)

-- fields to be changed, each with its new value, or with none where it is to go
abbrev pub Changes : Type 0
Changes = List (List ℕ × Option (List ℕ))

-- the changes, one after another
abbrev pub fields_changed : Pairs → Changes → Pairs
fields_changed pairs changes = fold (λ done change. field_changed done change.0 change.1) pairs changes

-- HSET of one field, if that is done
abbrev pub set_if : Bool → Pairs → List ℕ → List ℕ → Pairs
set_if is_done pairs field value = if is_done then field_set pairs field value else pairs

-- the changes, if they are made
abbrev pub changed_if : Bool → Pairs → Changes → Pairs
changed_if is_made pairs changes = if is_made then fields_changed pairs changes else pairs
