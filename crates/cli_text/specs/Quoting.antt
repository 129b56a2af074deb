-- Bytes as redis-cli prints them in double quotes.
use Rattle.std.specs.Prelude.{◌==◌, ◌++◌, ◌∷◌, ℕ, nat_lt, List, [], codes, if◌then◌else◌}
use Rattle.std.specs.List.{flat_map}
use Rattle.cli_text.specs.Hex.{hex}

-- a byte from 32 to 126 as it is, any other one written out
abbrev pub plain_or_hex : ℕ → List ℕ
plain_or_hex byte = if nat_lt byte 32 then hex byte else (if nat_lt 126 byte then hex byte else byte ∷ [])

-- what a backslash stands before, and any other byte
abbrev pub shown : ℕ → List ℕ
shown byte =
    if byte == 34 then codes "\\\""
    else (if byte == 92 then codes "\\\\"
    else (if byte == 10 then codes "\\n"
    else (if byte == 13 then codes "\\r"
    else (if byte == 9 then codes "\\t"
    else (if byte == 7 then codes "\\a"
    else (if byte == 8 then codes "\\b"
    else plain_or_hex byte))))))

-- the bytes in double quotes
abbrev pub quoted : List ℕ → List ℕ
quoted bytes = 34 ∷ (flat_map shown bytes ++ 34 ∷ [])
