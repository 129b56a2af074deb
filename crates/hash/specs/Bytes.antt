-- Bytes that are changed in place. No public clause needs it.
use Rattle.std.specs.Prelude.{ℕ, List, ◌++◌, take, drop}

-- the bytes, with new ones in place of those from the one place to the other
abbrev pub spliced : List ℕ → ℕ → ℕ → List ℕ → List ℕ
spliced bytes from to new = take from bytes ++ (new ++ drop to bytes)
