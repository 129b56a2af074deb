-- Reading a header from the front of a list, with what the bytes so far decide (RESP protocol, "Integers", "Bulk strings",
-- "Arrays"; the reading is ours).
use Rattle.std.specs.Prelude.{◌+◌, ◌-◌, ◌*◌, ◌==◌, nat_lt, ◌||◌, if◌then◌else◌, ℕ, List, [], ◌∷◌, ◌++◌, decimal}
use Rattle.resp_header.specs.declared.fault.Fault.{Fault}
use Rattle.resp_header.specs.declared.fault.Fault.TheVariants.{Protocol}

-- a header, and the rest
abbrev pub header_onto : ℕ → ℕ → List ℕ → List ℕ
header_onto mark n rest = mark ∷ (decimal n ++ (13 ∷ 10 ∷ rest))

-- nothing yet, a fault at the last byte looked at, or a value and the bytes after it
pub data Seen (X : Type 0) : Type 0 where
  Wants : Seen X
  Bad : Fault → Seen X
  Found : X → List ℕ → Seen X

-- what is found next, where something was found
abbrev pub and_then : {X Y : Type 0} → Seen X → (X → List ℕ → Seen Y) → Seen Y
and_then Wants next = Wants
and_then (Bad fault) next = Bad fault
and_then (Found x rest) next = next x rest

-- a fact for each outcome
abbrev pub MatchSeen : {X : Type 0} → Seen X → Type 0 → (Fault → Type 0) → (X → List ℕ → Type 0) → Type 0
MatchSeen Wants P Q R = P
MatchSeen (Bad fault) P Q R = Q fault
MatchSeen (Found x rest) P Q R = R x rest

-- behind CR
abbrev pub after_cr : {X : Type 0} → X → List ℕ → Seen X
after_cr x [] = Wants
after_cr x (b ∷ bs) = if b == 10 then Found x bs else Bad Protocol

-- behind digits that write n
abbrev pub digits_at : Fault → ℕ → ℕ → List ℕ → Seen ℕ
digits_at fault most n [] = Wants
digits_at fault most n (b ∷ bs) =
    if b == 13 then after_cr n bs
    else (if n == 0 || (nat_lt b 48 || nat_lt 57 b) then Bad Protocol
    else (if nat_lt most (10 * n + (b - 48)) then Bad fault else digits_at fault most (10 * n + (b - 48)) bs))

-- at the first digit
abbrev pub number_at : Fault → ℕ → ℕ → List ℕ → Seen ℕ
number_at fault least most [] = Wants
number_at fault least most (b ∷ bs) =
    if nat_lt b 48 || nat_lt 57 b then Bad Protocol
    else (if nat_lt (b - 48) least then Bad Protocol
    else (if nat_lt most (b - 48) then Bad fault else digits_at fault most (b - 48) bs))

-- `<mark><number>\r\n`, with the fault of a number above `most`
abbrev pub header_at : ℕ → Fault → ℕ → ℕ → List ℕ → Seen ℕ
header_at mark fault least most [] = Wants
header_at mark fault least most (b ∷ bs) = if b == mark then number_at fault least most bs else Bad Protocol
