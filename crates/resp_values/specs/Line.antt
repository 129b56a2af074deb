-- The text of a simple string or of an error (RESP protocol, "Simple strings": it contains neither CR nor LF).
use Rattle.std.specs.Prelude.{ℕ, List, Bool, true, false, if◌then◌else◌, ◌==◌}
use Rattle.std.specs.List.{list_all}

-- the byte is neither CR nor LF
abbrev pub is_text_byte : ℕ → Bool
is_text_byte byte = if byte == 13 then false else (if byte == 10 then false else true)

-- no byte of the text ends a line
abbrev pub is_one_line : List ℕ → Bool
is_one_line text = list_all is_text_byte text
