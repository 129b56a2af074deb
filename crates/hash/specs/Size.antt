-- How many bytes the pairs of a hash take in a request (Redis' command `HSET key field value [field value ...]`).
use Rattle.std.specs.Prelude.{ℕ, List, [], ◌∷◌, length}
use Rattle.hash.specs.Pairs.{Pairs}
use Rattle.resp_values.specs.Request.{bulks_spelling}

-- the words that HGETALL lists: each field, followed by its value
abbrev pub words_of : Pairs → List (List ℕ)
words_of [] = []
words_of (pair ∷ pairs) = pair.0 ∷ pair.1 ∷ words_of pairs

-- the bytes of these words as bulk strings
abbrev pub size_of : Pairs → ℕ
size_of pairs = length (bulks_spelling (words_of pairs))
