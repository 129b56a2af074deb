-- What comes of the request that makes a key with its value (Redis documentation, "Redis persistence": a rewritten append-only
-- file holds such requests).
use Rattle.std.specs.Prelude.{◌≡◌, ◌<◌, ℕ, List, [], ◌∷◌, length}
use Rattle.std.specs.FinMap as map
use Rattle.hash.specs.Pairs.{HasDistinctFields}
use Rattle.resp_values.specs.Request.{IsRequest}
use Rattle.keyspace.specs.Commands.{replay}
use Rattle.keyspace.specs.Rebuilding.{rebuilding}
use Rattle.keyspace.specs.declared.value.Value.{Value}
use Rattle.keyspace.specs.declared.value.Value.TheVariants.{Str, Hash}

-- a value as keys have it: a hash has some field, and none stands twice
abbrev pub IsStored : Value → Type 0
IsStored (Str bytes) = Unit {0}
IsStored (Hash pairs) = (0 < length pairs) × HasDistinctFields pairs

-- executed on no key, the request makes this key with this value, fields in their order, and no other key
abbrev pub Rebuilds : Type 0
Rebuilds = (key : List ℕ) (value : Value) → IsStored value → IsRequest (rebuilding key value) → (replay (rebuilding key value ∷ [])).last ≡ map.insert map.empty key value
