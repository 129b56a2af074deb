-- A value that a list lends to be changed. No public clause needs it.
use Rattle.std.specs.Prelude.{◌≡◌, ℕ, List, [], Option, slice_index_or}
use Rattle.std.specs.Borrow.{Lends, LendsSo, Fml, MutBor, RattleType}
use Rattle.std.specs.Map.{keys_of, set_value}
use Rattle.std.specs.Vec.{with_item}
use Rattle.key_map.specs.KeyMap.{is_key}
use Rattle.key_map.specs.declared.few.Few.{Few}
use Rattle.key_map.specs.contracts.few.Few.{the_row}

-- the list with this as the value of the pair at an index
abbrev pub with_value : {X : Type 0} → Few X → ℕ → X → Few X
with_value few at value = record few { pairs = with_item few.pairs at (slice_index_or (keys_of few.pairs.items) at [], value) }

module _ (V : RattleType) (few : MutBor (Few V.Denot)) where
  -- the pair at the index ends with what is left behind `lent`
  abbrev pub LendsValueAt : ℕ → MutBor V.Denot → Fml
  LendsValueAt at lent = Lends (the_row V) V few lent (with_value few.now at)

  -- the pair of the key does, and the list is as it was where nothing is lent
  abbrev pub LendsValueOf : List ℕ → Option (MutBor V.Denot) → Fml
  LendsValueOf key lent = LendsSo (the_row V) V few lent (λ after left. after.pairs.items ≡ set_value (is_key key) few.now.pairs.items left) (λ after. after ≡ few.now)
