-- Which text has which parts: a number, an address, and what stands around them.
use Rattle.std.proofs.Common.{◌≡◌, ℕ, ◌-◌, ◌<◌, ◌≤◌, ◌^◌, ◌&&◌, true, false, cond, List, ◌∷◌, ◌++◌, ℤ, pos, negsuc, Option, Some, None, SomeIff, IfSome, IfNone, Result, Ok, Err, OkIff, nat_le, nat_abs, to_z, of_z, w64, refl, sym, ap, subst, ◌∙◌, arith}
use Rattle.std.specs.Prelude.{decimal, option_and_then}
use Rattle.std.proofs.lemmas.Bool.{and_from, and_parts, le-leb, leb-true}
use Rattle.std.specs.Int.{FitsUnsignedBits}
use Rattle.std.specs.Result.{result_ok}
use Rattle.std.proofs.lemmas.Fmt.{decimal_injective}
use Rattle.std.proofs.lemmas.Int.{to_z-of_z}
use Rattle.std.proofs.lemmas.List.{append-nil}
use Rattle.command_table.proofs.NumberTexts.{fits_only_if}
use Rattle.command_table.specs.Numbers.{number_of, natural, positive_of, from_to, fits}
use Rattle.redirection.specs.Splitting.{IsSplit, IsNumber, IsNoNumber, IsNoHostAndPort, IsNumbered, IsNotNumbered, IsSlotAndRest, IsNoSlotAndRest, is_without}
use Rattle.redirection.proofs.Numbers.{number_has_no_blank, read_is_written, written_is_read}
use Rattle.redirection.proofs.Splits.{same_split, with_it}

-- ---- numbers of 16 bits

pub short_is_read : (least greatest : ℕ) (text : List ℕ) (number : ℕ) → greatest ≤ 65535 → IsNumber least greatest text number → number_of text ≡ Some (pos number)
short_is_read least greatest text number small is =
    ap number_of is.text_is ∙ written_is_read number (omega (arith, is.to))

pub short_is_written : (text : List ℕ) (number : ℕ) → number_of text ≡ Some (pos number) → number ≤ 65535 → IsNumber 0 65535 text number
short_is_written text number is small = record { text_is = (read_is_written text (pos number) is).0; from = omega arith; to = small }

pub no_short : (text : List ℕ) → number_of text ≡ None → IsNoNumber 0 65535 text
no_short text none number is =
    let read : number_of text ≡ Some (pos number) = short_is_read 0 65535 text number (omega arith) is in
    cc

as_it_is : (text : List ℕ) (z : ℤ) → number_of text ≡ Some z → to_z w64 (of_z w64 z) ≡ z
as_it_is text z is = to_z-of_z w64 z (fits_only_if z (read_is_written text z is).1)

short_from : (text : List ℕ) (z : ℤ) (number : ℕ) → number_of text ≡ Some z → FitsUnsignedBits 16 z → number ≡ nat_abs z → IsNumber 0 65535 text number
short_from text (pos n) number is fits same = short_is_written text number (is ∙ ap (λ (m : ℕ). Some (pos m)) (sym same)) (omega (arith, fits, same))
short_from text (negsuc n) number is fits same = absurd fits

-- a number that fits in 16 bits
short_if_it_fits : (text : List ℕ) (z : ℤ) (number : ℕ) → number_of text ≡ Some z → FitsUnsignedBits 16 (to_z w64 (of_z w64 z)) × (number ≡ nat_abs (to_z w64 (of_z w64 z)))
    → IsNumber 0 65535 text number
short_if_it_fits text z number is fits =
    let moved = subst (λ (y : ℤ). FitsUnsignedBits 16 y × (number ≡ nat_abs y)) (as_it_is text z is) fits in
    short_from text z number is moved.0 moved.1

-- any other number
no_short_number : (text : List ℕ) (z : ℤ) → number_of text ≡ Some z → (FitsUnsignedBits 16 (to_z w64 (of_z w64 z)) → ⊥) → IsNoNumber 0 65535 text
no_short_number text z is past number short =
    let read : number_of text ≡ Some (pos number) = short_is_read 0 65535 text number (omega arith) short in
    let same : pos number ≡ z = cc in
    past (subst (λ (y : ℤ). FitsUnsignedBits 16 y) (same ∙ sym (as_it_is text z is)) (omega (arith, short.to)))

pub short_found : {E : Type 0} (text : List ℕ) (z : ℤ) (short : Result ℕ E) → number_of text ≡ Some z
    → OkIff short (FitsUnsignedBits 16 (to_z w64 (of_z w64 z))) (nat_abs (to_z w64 (of_z w64 z))) → IfSome (result_ok short) (λ number. IsNumber 0 65535 text number)
short_found text z (Ok number) is fits = short_if_it_fits text z number is fits
short_found text z (Err e) is past = tt

pub short_not_found : {E : Type 0} (text : List ℕ) (z : ℤ) (short : Result ℕ E) → number_of text ≡ Some z
    → OkIff short (FitsUnsignedBits 16 (to_z w64 (of_z w64 z))) (nat_abs (to_z w64 (of_z w64 z))) → IfNone (result_ok short) (IsNoNumber 0 65535 text)
short_not_found text z (Ok number) is fits = tt
short_not_found text z (Err e) is past = no_short_number text z is past

pub same_number : (least greatest most : ℕ) (text : List ℕ) (number other : ℕ) → greatest ≤ 65535 → most ≤ 65535 → IsNumber 0 most text number → IsNumber least greatest text other → number ≡ other
same_number least greatest most text number other small short one two =
    decimal_injective number other (omega (arith, one.to)) (omega (arith, two.to)) (sym one.text_is ∙ two.text_is)

pub no_port_is_zero : (text : List ℕ) (port : ℕ) → IsNumber 0 65535 text port → port ≡ 0 → IsNoNumber 1 65535 text
no_port_is_zero text port is zero other two =
    omega (arith, same_number 1 65535 65535 text port other (omega arith) (omega arith) is two, two.from)

pub slot_or_none : (text : List ℕ) (number : ℕ) (slot : Option ℕ) → IsNumber 0 65535 text number → SomeIff slot (number < 16384) number → IfNone slot (IsNoNumber 0 16383 text)
slot_or_none text number (Some slot) is iff = tt
slot_or_none text number None is iff =
    λ other two. iff (omega (arith, same_number 0 16383 65535 text number other (omega arith) (omega arith) is two, two.to))

-- ---- a host and a port

pub no_port : (text first rest : List ℕ) → IsSplit 58 text first rest → IsNoNumber 1 65535 rest → IsNoHostAndPort text
no_port text first rest split none host port is =
    let same = same_split 58 first host rest (decimal port) split.without is.without (sym split.text_is ∙ is.text_is) in
    none port (record { text_is = same.rests; from = is.from; to = is.to })

-- ---- a slot and what is behind it

pub no_slot : (text first rest : List ℕ) → IsSplit 32 text first rest → IsNoNumber 0 16383 first → IsNoSlotAndRest text
no_slot text first rest split none slot more is =
    let blanks = number_has_no_blank slot (omega (arith, is.below)) in
    let same = same_split 32 first (decimal slot) rest more split.without blanks (sym split.text_is ∙ is.text_is) in
    none slot (record { text_is = same.firsts; from = omega arith; to = omega (arith, is.below) })

-- ---- the number of a move

pub positive_is_read : (text : List ℕ) (n : ℕ) → text ≡ decimal n → 1 ≤ n → n < 2 ^ 63 → positive_of text ≡ Some n
positive_is_read text n is some small =
    let read : number_of text ≡ Some (pos n) = ap number_of is ∙ written_is_read n small in
    let within : (nat_le 1 n && nat_le n (2 ^ 63 - 1)) ≡ true = and_from _ _ (le-leb 1 n some) (le-leb n (2 ^ 63 - 1) (omega arith)) in
    rw read (ap (λ b. cond b (Some n) None) within)

within : (m n : ℕ) → from_to 1 (2 ^ 63 - 1) m ≡ Some n → (m ≡ n) × (1 ≤ m) × (m < 2 ^ 63)
within m n is =
    elim (nat_le 1 m && nat_le m (2 ^ 63 - 1)) as (λ b. (nat_le 1 m && nat_le m (2 ^ 63 - 1)) ≡ b → cond b (Some m) None ≡ Some n → (m ≡ n) × (1 ≤ m) × (m < 2 ^ 63)) [
      | true ↦ λ passes same.
          let parts = and_parts (nat_le 1 m) (nat_le m (2 ^ 63 - 1)) passes in
          (cc, leb-true 1 m parts.0, omega (arith, leb-true m (2 ^ 63 - 1) parts.1))
      | false ↦ λ passes same. cc
    ] refl is

positive_from : (text : List ℕ) (n : ℕ) (number : Option ℤ) → number_of text ≡ number → option_and_then (from_to 1 (2 ^ 63 - 1)) (option_and_then natural number) ≡ Some n
    → (text ≡ decimal n) × (1 ≤ n) × (n < 2 ^ 63)
positive_from text n None is same = cc
positive_from text n (Some (negsuc m)) is same = cc
positive_from text n (Some (pos m)) is same =
    let parts = within m n same in
    ((read_is_written text (pos m) is).0 ∙ ap decimal parts.0, omega (arith, parts.0, parts.1), omega (arith, parts.0, parts.2))

pub positive_is_written : (text : List ℕ) (n : ℕ) → positive_of text ≡ Some n → (text ≡ decimal n) × (1 ≤ n) × (n < 2 ^ 63)
positive_is_written text n is = positive_from text n (number_of text) refl is

pub number_behind : (text first rest : List ℕ) (n : ℕ) → IsSplit 32 text first rest → positive_of rest ≡ Some n → IsNumbered text first (Some n)
number_behind text first rest n split is =
    let read = positive_is_written rest n is in
    record { text_is = split.text_is ∙ ap (λ (xs : List ℕ). first ++ 32 ∷ xs) read.0; without = split.without; is_move = (read.1, read.2) }

pub no_number_behind : (text first rest : List ℕ) → IsSplit 32 text first rest → positive_of rest ≡ None → IsNotNumbered text
no_number_behind text first rest split none address None is =
    with_it 32 first rest (subst (λ (xs : List ℕ). is_without 32 xs ≡ true) (sym (append-nil address) ∙ sym is.text_is ∙ split.text_is) is.without)
no_number_behind text first rest split none address (Some n) is =
    let same = same_split 32 first address rest (decimal n) split.without is.without (sym split.text_is ∙ is.text_is) in
    let read : positive_of rest ≡ Some n = positive_is_read rest n same.rests is.is_move.0 is.is_move.1 in
    cc

-- ---- two readings of one text

pub same_rest : (text : List ℕ) (slot other : ℕ) (rest more : List ℕ) → IsSlotAndRest text slot rest → IsSlotAndRest text other more → (slot ≡ other) × (rest ≡ more)
same_rest text slot other rest more one two =
    let same = same_split 32 (decimal slot) (decimal other) rest more (number_has_no_blank slot (omega (arith, one.below))) (number_has_no_blank other (omega (arith, two.below)))
    (sym one.text_is ∙ two.text_is) in
    (decimal_injective slot other (omega (arith, one.below)) (omega (arith, two.below)) same.firsts, same.rests)

pub same_numbered : (text address other : List ℕ) (number more : Option ℕ) → IsNumbered text address number → IsNumbered text other more → (address ≡ other) × (number ≡ more)
same_numbered text address other None None one two =
    (sym (append-nil address) ∙ sym one.text_is ∙ two.text_is ∙ append-nil other, refl)
same_numbered text address other None (Some n) one two =
    absurd (with_it 32 other (decimal n) (subst (λ (xs : List ℕ). is_without 32 xs ≡ true) (sym (append-nil address) ∙ sym one.text_is ∙ two.text_is) one.without))
same_numbered text address other (Some n) None one two =
    absurd (with_it 32 address (decimal n) (subst (λ (xs : List ℕ). is_without 32 xs ≡ true) (sym (append-nil other) ∙ sym two.text_is ∙ one.text_is) two.without))
same_numbered text address other (Some n) (Some m) one two =
    let same = same_split 32 address other (decimal n) (decimal m) one.without two.without (sym one.text_is ∙ two.text_is) in
    (same.firsts, ap (λ (k : ℕ). Some k) (decimal_injective n m (omega (arith, one.is_move.1)) (omega (arith, two.is_move.1)) same.rests))
