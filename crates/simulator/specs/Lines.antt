-- Lines and words of a text, in the simulator's own format.
use Rattle.std.specs.Prelude.{◌∷◌, ◌&&◌, ◌==◌, ℕ, nat_le, Bool, List, [], length, if◌then◌else◌}
use Rattle.std.specs.List.{slice_split}

-- a text that ends with a newline has no line behind it
abbrev pub lines_of_parts : List (List ℕ) → List (List ℕ)
lines_of_parts [] = []
lines_of_parts (last ∷ []) = if length last == 0 then [] else last ∷ []
lines_of_parts (line ∷ next ∷ parts) = line ∷ lines_of_parts (next ∷ parts)

-- newlines end the lines
abbrev pub lines : List ℕ → List (List ℕ)
lines text = lines_of_parts (slice_split (λ byte. byte == 10) text)

-- blanks part the words
abbrev pub words : List ℕ → List (List ℕ)
words line = slice_split (λ byte. byte == 32) line

-- a blank, or a byte that a word may have
abbrev pub is_plain : ℕ → Bool
is_plain byte = nat_le 32 byte && nat_le byte 126
