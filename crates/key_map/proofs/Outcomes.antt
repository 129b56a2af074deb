-- What a call that may be refused leads to.
use Rattle.std.proofs.Common.{◌≡◌, ℕ, List, Result, Ok, Err, OnOk, OnErr, sym, subst}
use Rattle.std.specs.BTreeMap.{insert_entry}
use Rattle.key_map.specs.KeyMap.{KeyMap, IsRising}
use Rattle.key_map.proofs.Places.{compare, rising_puts}

-- a map of these entries
abbrev pub map_of : {X : Type 0} → List (List ℕ × X) → KeyMap X
map_of entries = record { entries = entries }

pub on_err : {T E P : Type 0} (r : Result T E) → P → OnErr r P
on_err (Ok x) p = tt
on_err (Err e) p = p

pub ok_leads : {T E P Q : Type 0} (r : Result T E) → (P → Q) → OnOk r P → OnOk r Q
ok_leads (Ok x) leads p = leads p
ok_leads (Err e) leads p = tt

-- the keys rise, whether or not a pair was put
pub rising_after : {T E X : Type 0} (r : Result T E) (k : List ℕ) (w : X) (old new : List (List ℕ × X)) → IsRising old → OnOk r (new ≡ insert_entry compare old k w) → OnErr r (new ≡ old) → IsRising new
rising_after (Ok x) k w old new rising put same = subst IsRising (sym put) (rising_puts k w old rising)
rising_after (Err e) k w old new rising put same = subst IsRising (sym same) rising
