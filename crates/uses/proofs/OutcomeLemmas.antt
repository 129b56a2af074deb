-- Facts that hold where a call succeeds.
use Rattle.std.specs.Prelude.{Result, Ok, Err, OnOk, IfOk}

-- what follows from one
pub on_ok : {T E P Q : Type 0} (result : Result T E) → OnOk result P → (P → Q) → OnOk result Q
on_ok (Ok x) fact then = then fact
on_ok (Err e) fact then = tt

-- what follows from one on the value
pub if_ok : {T E : Type 0} {P Q : T → Type 0} (result : Result T E) → IfOk result P → ((x : T) → P x → Q x) → IfOk result Q
if_ok (Ok x) fact then = then x fact
if_ok (Err e) fact then = tt

-- what follows from one on the value, whatever that is
pub on_ok_from_if_ok : {T E Q : Type 0} {P : T → Type 0} (result : Result T E) → IfOk result P → ((x : T) → P x → Q) → OnOk result Q
on_ok_from_if_ok (Ok x) fact then = then x fact
on_ok_from_if_ok (Err e) fact then = tt
