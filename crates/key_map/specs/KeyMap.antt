-- Keys with their values, in the byte order of the keys.
use Rattle.std.specs.Prelude.{◌≡◌, ℕ, Bool, cond, List, length, Option, refl}
use Rattle.std.specs.Cmp.Lexicographic.{slice_cmp}
use Rattle.std.specs.Coded.{Coded, code_by, coded×, coded_list, coded_ℕ}
use Rattle.std.specs.List.Sorted.{IsStrictlySortedBy}
use Rattle.std.specs.Map.{keys_of, lookup}
use Rattle.std.specs.Ordering.{nat_cmp, eq_by_cmp}

-- what a map has, by rising key
pub record KeyMap (X : Type 0) : Type 0 where
  pub entries : List (List ℕ × X)

-- a map is stored as its entries
abbrev pub key_map_code : {X : Type 0} → Coded X → Coded (KeyMap X)
key_map_code {X} code = code_by (List (List ℕ × X)) (coded_list (coded× (coded_list coded_ℕ) code)) (λ m. m.entries) (λ es. record { entries = es }) (λ _. refl)

-- two keys have the same bytes
abbrev pub is_key : List ℕ → List ℕ → Bool
is_key key = eq_by_cmp (slice_cmp nat_cmp) key

module _ {X : Type 0} where
  -- the keys strictly rise in the order of their bytes
  abbrev pub IsRising : List (List ℕ × X) → Type 0
  IsRising entries = IsStrictlySortedBy (slice_cmp nat_cmp) (keys_of entries)

  -- the same of a map
  abbrev pub IsOrdered : KeyMap X → Type 0
  IsOrdered m = IsRising m.entries

  -- how many keys a map has
  abbrev pub map_len : KeyMap X → ℕ
  map_len m = length m.entries

  -- the keys, in order
  abbrev pub keys : KeyMap X → List (List ℕ)
  keys m = keys_of m.entries

  -- the value at the key
  abbrev pub get : KeyMap X → List ℕ → Option X
  get m key = lookup (is_key key) m.entries

  -- the new map has this at the key (None takes it out), and at each other key what the old one has
  abbrev pub Updates : KeyMap X → KeyMap X → List ℕ → Option X → Type 0
  Updates old new key value = (other : List ℕ) → get new other ≡ cond (is_key key other) value (get old other)
