-- A value that a form lends to be changed. No public clause needs it.
use Rattle.std.specs.Prelude.{◌≡◌, ℕ, List, Option}
use Rattle.std.specs.Borrow.{LendsSo, Fml, MutBor, RattleType}
use Rattle.std.specs.Map.{set_value}
use Rattle.key_map.specs.Form.{entries_of}
use Rattle.key_map.specs.KeyMap.{is_key}
use Rattle.key_map.specs.declared.form.Form.{Form}
use Rattle.key_map.specs.contracts.form.Form.{the_row}

-- the entry of the key ends with what is left behind `lent`, and all are as they were where nothing is lent
abbrev pub LendsValueOf : (V : RattleType) → MutBor (Form V.Denot) → List ℕ → Option (MutBor V.Denot) → Fml
LendsValueOf V form key lent =
    LendsSo (the_row V) V form lent (λ after left. entries_of after ≡ set_value (is_key key) (entries_of form.now) left) (λ after. entries_of after ≡ entries_of form.now)
