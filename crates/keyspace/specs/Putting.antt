-- Values that are put at keys, one after another (ours).
use Rattle.std.specs.Prelude.{◌≡◌, ℕ, List, [], ◌∷◌}
use Rattle.std.specs.Prelude.{map as each}
use Rattle.std.specs.FinMap as map
use Rattle.keyspace.specs.Changes.{Changes, applied}
use Rattle.keyspace.specs.Keyspace.{Keyspace}
use Rattle.keyspace.specs.declared.value.Value.{Value}
use Rattle.keyspace.specs.declared.value.Value.TheVariants.{Str}

abbrev pub with_pairs : Keyspace → List (List ℕ × Value) → Keyspace
with_pairs keyspace [] = keyspace
with_pairs keyspace (pair ∷ pairs) = with_pairs (map.insert keyspace pair.0 pair.1) pairs

-- the new values put these pairs, too, from left to right
abbrev pub PutsPairs : Changes → Changes → List (List ℕ × Value) → Type 0
PutsPairs old new pairs = (keyspace : Keyspace) → applied keyspace new ≡ with_pairs (applied keyspace old) pairs

-- the pairs of an MSET, whose values are strings
abbrev pub string_pairs : List (List ℕ × List ℕ) → List (List ℕ × Value)
string_pairs pairs = each (λ pair. (pair.0, Str pair.1)) pairs
