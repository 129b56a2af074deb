-- The word with which the text of an error begins (RESP protocol specification, "Simple errors": the first word is the kind of error).
use Rattle.std.specs.Prelude.{ℕ, ◌==◌, List, take}
use Rattle.std.specs.List.{position_or_len}

-- what stands before the first blank
abbrev pub first_word : List ℕ → List ℕ
first_word text = take (position_or_len (λ byte. byte == 32) text) text
