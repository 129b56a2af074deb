-- What is counted of connections (ours).
use Rattle.std.specs.Prelude.{◌≡◌, ℕ, List, Option, true, count_by, length, ◌≢◌, slice_index_or}
use Rattle.connections.specs.Connections.{is_waiting}
use Rattle.connections.specs.declared.conn.Connection.{Connection}

-- how many of these wait for anything
abbrev pub count_of_waits : List (Option Connection) → ℕ
count_of_waits slots = count_by (is_waiting (λ wait. true)) slots

-- so many wait, and each key's opens are counted
pub record AreCounted (slots : List (Option Connection)) (opens : List ℕ) (waits : ℕ) : Type 0 where
  pub waiting : waits ≡ count_of_waits slots
  pub keys : length opens ≡ length slots

-- all other keys have the count that they had
abbrev pub KeepsOthers : ℕ → List ℕ → List ℕ → Type 0
KeepsOthers key old new = (other : ℕ) → other ≢ key → slice_index_or new other 0 ≡ slice_index_or old other 0
