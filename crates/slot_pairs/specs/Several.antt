-- What is in several slots.
use Rattle.std.specs.Prelude.{◌≡◌, ◌==◌, ℕ, Bool, List}
use Rattle.std.specs.List.{list_any}
use Rattle.key_map.specs.KeyMap.{is_key}
use Rattle.key_slot.specs.Slot.{hash_slot}

-- the key is in one of the slots
abbrev pub is_in_one : List ℕ → List ℕ → Bool
is_in_one slots key = list_any (λ slot. slot == hash_slot key) slots

-- two lists have the same keys, in any order, and some of them maybe twice. No public clause needs it
abbrev pub HaveSameKeys : List (List ℕ) → List (List ℕ) → Type 0
HaveSameKeys some others = (key : List ℕ) → list_any (is_key key) some ≡ list_any (is_key key) others
