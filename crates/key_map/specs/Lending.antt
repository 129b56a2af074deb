-- A value that a map lends to be changed.
use Rattle.std.specs.Prelude.{◌≡◌, ℕ, List, Option, Some, IsSome}
use Rattle.std.specs.Borrow.{LendsSo, Fml, MutBor, RattleType}
use Rattle.std.specs.Map.{set_value}
use Rattle.key_map.specs.KeyMap.{KeyMap, get, is_key, Updates}
use Rattle.key_map.specs.contracts.key_map.KeyMap.{the_row}

-- the new map has this as the value of the key, if it is there, and all else as in the old one
abbrev pub WritesThrough : {X : Type 0} → KeyMap X → List ℕ → X → KeyMap X → Type 0
WritesThrough old key value new = (new.entries ≡ set_value (is_key key) old.entries value) × (IsSome (get old key) → Updates old new key (Some value))

-- the key of the map ends with what is left behind `lent` as its value, and the map is as it was where nothing is lent
abbrev pub LendsValue : (V : RattleType) → MutBor (KeyMap V.Denot) → List ℕ → Option (MutBor V.Denot) → Fml
LendsValue V m key lent = LendsSo (the_row V) V m lent (λ after left. WritesThrough m.now key left after) (λ after. after ≡ m.now)
