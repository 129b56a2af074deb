-- What is left of a text behind the end of its first part. No public clause needs it.
use Rattle.std.specs.Prelude.{◌==◌, ℕ, List, [], Option, Some, None}
use Rattle.std.specs.Borrow.{Bor}
use Rattle.std.specs.List.{slice_split}

-- the parts behind the first one, of which there are none where nothing ends it
abbrev pub parts_behind : ℕ → Option (Bor (List ℕ)) → List (List ℕ)
parts_behind end None = []
parts_behind end (Some behind) = slice_split (λ byte. byte == end) behind.now

-- the words behind the first one
abbrev pub words_behind : Option (Bor (List ℕ)) → List (List ℕ)
words_behind behind = parts_behind 32 behind
