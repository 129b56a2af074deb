-- The limits of a client, which are ours.
use Rattle.std.specs.Prelude.{ℕ}

-- how often a call is redirected
abbrev pub most_redirections : ℕ
most_redirections = 16

-- how many addresses a client knows
abbrev pub most_addresses : ℕ
most_addresses = 64
