-- The numbers of moves (ours).
use Rattle.std.specs.Prelude.{ℕ, ◌+◌, ◌==◌, nat_lt, Bool, true, if◌then◌else◌, Option, Some, None}

-- a new move has the number asked for, if it is above the last one, or else the next one, up to 9223372036854775807
-- (an old number is refused, or this goes wrong: in move 1 the slot came from node 0 to node 1, in move 2 it went back; IMPORTING,
-- Copy, Drained and NODE of move 1 come to node 1 once more, which owns the slot then with b as it was, while node 0 serves b)
abbrev pub new_number : ℕ → Option ℕ → Option ℕ
new_number last (Some asked) = if nat_lt last asked then Some asked else None
new_number last None = if nat_lt last 9223372036854775807 then Some (last + 1) else None

-- an order names a move by its number, or without one
abbrev pub is_named : ℕ → Option ℕ → Bool
is_named number (Some asked) = asked == number
is_named number None = true
