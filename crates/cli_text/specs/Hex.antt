-- A byte in hexadecimal digits, as redis-cli and this program print one that has no sign of its own.
use Rattle.std.specs.Prelude.{◌+◌, ◌/◌, ◌%◌, ◌++◌, ◌∷◌, ℕ, nat_lt, List, [], codes, if◌then◌else◌}

-- `0` to `9` and `a` to `f`
abbrev pub hex_digit : ℕ → ℕ
hex_digit digit = if nat_lt digit 10 then 48 + digit else 87 + digit

-- any byte, written out
abbrev pub hex : ℕ → List ℕ
hex byte = codes "\\x" ++ hex_digit (byte / 16) ∷ hex_digit (byte % 16) ∷ []
