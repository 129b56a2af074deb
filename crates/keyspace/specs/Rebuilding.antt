-- The request that makes a key with its value (Redis documentation, "Redis persistence": a rewritten append-only file holds such
-- requests).
use Rattle.std.specs.Prelude.{ℕ, List, [], ◌∷◌, Bool, ◌&&◌, nat_le, length, codes}
use Rattle.hash.specs.Pairs.{Pairs}
use Rattle.hash.specs.Size.{words_of}
use Rattle.resp_values.specs.Request.{request_spelling}
use Rattle.resp_values.specs.Limits.{most_words, most_request_bytes}
use Rattle.keyspace.specs.declared.value.Value.{Value}
use Rattle.keyspace.specs.declared.value.Value.TheVariants.{Str, Hash}

-- SET for a string, and HSET for a hash, with all fields in their order
abbrev pub rebuilding : List ℕ → Value → List (List ℕ)
rebuilding key (Str bytes) = codes "SET" ∷ key ∷ bytes ∷ []
rebuilding key (Hash pairs) = codes "HSET" ∷ key ∷ words_of pairs

-- the request has no more words than a request may have, and no more bytes
abbrev pub fits_request : List (List ℕ) → Bool
fits_request words = nat_le (length words) most_words && nat_le (length (request_spelling words)) most_request_bytes

-- a hash with these fields may be left at the key (the limit is ours)
abbrev pub fits_hash : List ℕ → Pairs → Bool
fits_hash key pairs = fits_request (rebuilding key (Hash pairs))
