-- The places of connections (ours).
use Rattle.std.specs.Prelude.{◌≡◌, ◌≢◌, ◌+◌, ◌≤◌, ℕ, List, [], ◌∷◌, Option, Some, None, Bool, true, false, All, IsTrue, count_by, is_some, length, map, max, reverse, slice_get, slice_index_or, slice_set}
use Rattle.connections.specs.declared.conn.Connection.{Connection}

-- for each key the connection that is there, and the key that the next connection gets
pub record PlaceTable : Type 0 where
  pub slots : List (Option Connection)
  pub next_key : ℕ

-- the first of these free keys, or else the one behind the last place
abbrev pub next_key : List ℕ → ℕ → ℕ
next_key [] places = places
next_key (key ∷ keys) places = key

-- each of these keys is free as it is taken, and then all places are taken
abbrev pub AreFree : List ℕ → List Bool → Type 0
AreFree [] taken = All IsTrue taken
AreFree (key ∷ keys) taken = (slice_get taken key ≡ Some false) × AreFree keys (slice_set taken key true)

-- the free keys, of which the last one is taken first, are those of all places that are free, and there is room for the key of each place
pub record AreKept (slots : List (Option Connection)) (free : List ℕ) (capacity : ℕ) : Type 0 where
  pub keys : AreFree (reverse free) (map is_some slots)
  pub room : length slots ≤ capacity

-- a connection is at a key where there was none, and there is a new place only where all others are filled
pub record Fills (old new : List (Option Connection)) (key : ℕ) (connection : Connection) : Type 0 where
  pub free : slice_index_or old key None ≡ None
  pub filled : slice_index_or new key None ≡ Some connection
  pub others : (other : ℕ) → other ≢ key → slice_index_or new other None ≡ slice_index_or old other None
  pub len : length new ≡ max (length old) (key + 1)
  pub places : length new ≡ max (length old) (count_by is_some new)

-- the places, of which the one at the key is changed so
abbrev pub with_place : (Option Connection → Option Connection) → List (Option Connection) → ℕ → List (Option Connection)
with_place change slots key = slice_set slots key (change (slice_index_or slots key None))
