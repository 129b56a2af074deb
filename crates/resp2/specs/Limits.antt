-- The limits of a reply that is read, which are ours.
use Rattle.std.specs.Prelude.{ℕ}

-- how deep arrays nest
abbrev pub most_depth : ℕ
most_depth = 4

-- how many replies an array has, and how many bytes a bulk string
abbrev pub most_count : ℕ
most_count = 4294967295
