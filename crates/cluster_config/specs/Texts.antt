-- The texts of a node: its id, and where clients reach it (Redis Cluster specification, "Cluster nodes attributes").
use Rattle.std.specs.Prelude.{ℕ, ◌&&◌, ◌||◌, not, ◌==◌, nat_le, Bool, List, length}
use Rattle.std.specs.List.{list_all}

-- a hexadecimal digit, in lower case
abbrev pub is_id_digit : ℕ → Bool
is_id_digit byte = (nat_le 48 byte && nat_le byte 57) || (nat_le 97 byte && nat_le byte 102)

-- 40 hexadecimal digits
abbrev pub is_id : List ℕ → Bool
is_id text = (length text == 40) && list_all is_id_digit text

-- a printing ASCII character, but not the colon that stands before a port
abbrev pub is_host_character : ℕ → Bool
is_host_character byte = nat_le 33 byte && nat_le byte 126 && not (byte == 58)

-- 1 to 255 such characters
abbrev pub is_host : List ℕ → Bool
is_host text = nat_le 1 (length text) && nat_le (length text) 255 && list_all is_host_character text
