-- How a store lays its keys in maps. No public clause needs it: clauses see the keyspace.
use Rattle.std.specs.Prelude.{◌≡◌, ◌≢◌, ℕ, zero, suc, List, [], ◌∷◌, ◌++◌, Option, None}
use Rattle.std.specs.Cmp.Lexicographic.{slice_cmp}
use Rattle.std.specs.Map.{lookup}
use Rattle.std.specs.Ordering.{nat_cmp, eq_by_cmp}
use Rattle.key_map.specs.KeyMap.{KeyMap}
use Rattle.key_slot.specs.Slot.{hash_slot}

module _ {X : Type 0} where
  -- the entries of all maps, one map after another
  abbrev pub all_entries : List (KeyMap X) → List (List ℕ × X)
  all_entries [] = []
  all_entries (m ∷ maps) = m.entries ++ all_entries maps

  -- the entries of one map, or none past the last
  abbrev pub entries_at : List (KeyMap X) → ℕ → List (List ℕ × X)
  entries_at [] i = []
  entries_at (m ∷ maps) zero = m.entries
  entries_at (m ∷ maps) (suc i) = entries_at maps i

  -- the value of the key in one map
  abbrev pub found_at : List (KeyMap X) → ℕ → List ℕ → Option X
  found_at maps i key = lookup (eq_by_cmp (slice_cmp nat_cmp) key) (entries_at maps i)

  -- no key lies in the map of another slot
  abbrev pub ArePlaced : List (KeyMap X) → Type 0
  ArePlaced maps = (i : ℕ) (key : List ℕ) → i ≢ hash_slot key → found_at maps i key ≡ None
