-- Keys that are made anew or deleted, as requests.
use Rattle.std.specs.Prelude.{ℕ, Bool, List, [], ◌∷◌, if◌then◌else◌, ◌≡◌, ◌||◌, codes, filter, is_some, map, nat_eq, IfOk, Result}
use Rattle.std.specs.Cmp.Lexicographic.{pointwise}
use Rattle.std.specs.List.{list_any}
use Rattle.std.specs.declared.vec.Vec.{Vec}
use Rattle.std.specs.declared.alloc.Global.{Global}
use Rattle.std.specs.FinMap as fin_map
use Rattle.keyspace.specs.Rebuilding.{rebuilding}
use Rattle.keyspace.specs.declared.value.Value.{Value}
use Rattle.keyspace.specs.Keyspace.{Keyspace}
use Rattle.node_step.specs.Streams.{Requests, deletion}
use Rattle.resp_values.specs.Request.{request_spelling}
use Rattle.hash.specs.Pairs.{Pairs}
use Rattle.hash.specs.Size.{words_of}
use Rattle.resp2.specs.Stream.{stream_spelling}
use Rattle.slot_pairs.specs.Several.{is_in_one}

-- these requests were spelled, unless memory was refused
abbrev pub Spells : {E : Type 0} → Result (Vec ℕ Global) E → Requests → Type 0
Spells result requests = IfOk result (λ bytes. bytes.items ≡ stream_spelling requests)

-- the keys go that are in these slots
abbrev pub clearing : Keyspace → List ℕ → Requests
clearing keyspace slots = map deletion (filter (is_in_one slots) (fin_map.keys keyspace))

-- ---- No public clause needs these.

-- the key is there once these pairs are put behind what is
abbrev pub is_there_behind : Keyspace → List (List ℕ × Value) → List ℕ → Bool
is_there_behind keyspace pairs key = is_some (fin_map.get keyspace key) || list_any (λ pair. pointwise nat_eq pair.0 key) pairs

-- what makes a key anew
abbrev pub rebuilt : Bool → List ℕ → Value → Requests
rebuilt is_there key value = if is_there then deletion key ∷ rebuilding key value ∷ [] else rebuilding key value ∷ []

-- the bytes of a deletion
abbrev pub deletion_bytes : List ℕ → List ℕ
deletion_bytes key = request_spelling (deletion key)

-- and of one that comes only where the key is there
abbrev pub deletion_if : Bool → List ℕ → List ℕ
deletion_if is_there key = if is_there then deletion_bytes key else []

-- the bytes of what makes a key anew
abbrev pub rebuilt_bytes : Bool → List ℕ → Value → List ℕ
rebuilt_bytes is_there key value = stream_spelling (rebuilt is_there key value)

-- of the request that makes it
abbrev pub making_bytes : List ℕ → Value → List ℕ
making_bytes key value = request_spelling (rebuilding key value)

-- of that request where the key has a string
abbrev pub set_bytes : List ℕ → List ℕ → List ℕ
set_bytes key bytes = request_spelling (codes "SET" ∷ key ∷ bytes ∷ [])

-- and where it has a hash
abbrev pub hset_bytes : List ℕ → Pairs → List ℕ
hset_bytes key pairs = request_spelling (codes "HSET" ∷ key ∷ words_of pairs)
