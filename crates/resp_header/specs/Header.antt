-- What reading a header gives (ours).
use Rattle.std.specs.Prelude.{◌≡◌, ◌≤◌, ℕ, List, length, drop, Option, None, Some, Result, Ok, Err}
use Rattle.resp_header.specs.declared.fault.Fault.{Fault}
use Rattle.resp_header.specs.declared.header.Header.{Header}
use Rattle.resp_header.specs.Reading.{Seen, Wants, Bad, Found}

-- a header that was found, its length counted in these bytes
abbrev pub GivesHeader : List ℕ → Option Header → Seen ℕ → Type 0
GivesHeader bytes None seen = seen ≡ Wants
GivesHeader bytes (Some header) seen = (seen ≡ Found header.number (drop header.len bytes)) × (header.len ≤ length bytes)

-- the code's answer is what the bytes decide
abbrev pub Gives : List ℕ → Result (Option Header) Fault → Seen ℕ → Type 0
Gives bytes (Ok found) seen = GivesHeader bytes found seen
Gives bytes (Err fault) seen = seen ≡ Bad fault
