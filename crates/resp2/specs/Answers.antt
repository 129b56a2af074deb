-- What holds of an answer, by its kind (ours).
use Rattle.std.specs.Prelude.{Bool, Option, Result, IfOk, IfSome, IfNone}
use Rattle.std.specs.Bool.{OnTrue, OnFalse}
use Rattle.resp_header.specs.declared.fault.Fault.{Fault}

-- this holds of what was found, where something was
abbrev pub IfOkSome : {X : Type 0} → Result (Option X) Fault → (X → Type 0) → Type 0
IfOkSome result P = IfOk result (λ found. IfSome found P)

-- this holds where nothing was found yet
abbrev pub OnOkNone : {X : Type 0} → Result (Option X) Fault → Type 0 → Type 0
OnOkNone result P = IfOk result (λ found. IfNone found P)

-- this holds where the answer is yes
abbrev pub OnOkTrue : Result Bool Fault → Type 0 → Type 0
OnOkTrue result P = IfOk result (λ yes. OnTrue yes P)

-- this holds where the answer is no
abbrev pub OnOkFalse : Result Bool Fault → Type 0 → Type 0
OnOkFalse result P = IfOk result (λ yes. OnFalse yes P)
