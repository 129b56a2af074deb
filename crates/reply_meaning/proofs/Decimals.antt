-- The decimal texts of numbers of any size.
use Rattle.std.proofs.Common.{◌≡◌, ℕ, ◌+◌, ◌<◌, ◌≤◌, ◌==◌, ◌^◌, ◌/◌, ◌%◌, Bool, true, false, cond, ltb, List, [], ◌∷◌, length, zero, suc, refl, sym, ap, subst, ◌∙◌, arith}
use Rattle.std.specs.Prelude.{decimal}
use Rattle.std.specs.Fmt.{digit_glyph, digits, digits_onto}
use Rattle.std.specs.Str.Parse.{digits_value}
use Rattle.std.proofs.lemmas.Bool.{ltb-true, ltb-false, lt-ltb, ne_eqb}
use Rattle.std.proofs.lemmas.Fmt.{decimal_is_IsNumeral_wide, length-decimal-le}
use Rattle.redirection.proofs.Numbers.{without_both}
use Rattle.redirection.specs.Splitting.{is_without}

-- the last digit
abbrev last : ℕ → ℕ
last n = digit_glyph false (n % 10)

last_is : (n : ℕ) → last n ≡ 48 + n % 10
last_is n = ap (λ (b : Bool). cond b (48 + n % 10) (87 + n % 10)) (lt-ltb (n % 10) 10 (omega arith))

no_digit : (byte n : ℕ) → ((digit : ℕ) → digit < 10 → is_without byte ((48 + digit) ∷ []) ≡ true) → (text : List ℕ) → is_without byte text ≡ true → is_without byte (last n ∷ text) ≡ true
no_digit byte n none text front =
    subst (λ (digit : ℕ). is_without byte (digit ∷ text) ≡ true) (sym (last_is n)) (without_both byte ((48 + n % 10) ∷ []) text (none (n % 10) (omega arith)) front)

onto_without : (byte : ℕ) → ((digit : ℕ) → digit < 10 → is_without byte ((48 + digit) ∷ []) ≡ true) → (k n : ℕ) (text : List ℕ) → is_without byte text ≡ true
    → is_without byte (digits_onto k 10 false n text) ≡ true
onto_without byte none zero n text front = front
onto_without byte none (suc k) n text front =
    let more = no_digit byte n none text front in
    by (n / 10 == 0) more (onto_without byte none k (n / 10) (last n ∷ text) more)
  where
    by : (ends : Bool) → is_without byte (last n ∷ text) ≡ true → is_without byte (digits_onto k 10 false (n / 10) (last n ∷ text)) ≡ true
        → is_without byte (cond ends (last n ∷ text) (digits_onto k 10 false (n / 10) (last n ∷ text))) ≡ true
    by true here there = here
    by false here there = there

onto_is : (n : ℕ) → digits_onto 64 10 false n [] ≡ decimal n
unfolding digits
onto_is n = refl

without : (byte : ℕ) → ((digit : ℕ) → digit < 10 → is_without byte ((48 + digit) ∷ []) ≡ true) → (n : ℕ) → is_without byte (decimal n) ≡ true
without byte none n = subst (λ (text : List ℕ). is_without byte text ≡ true) (onto_is n) (onto_without byte none 64 n [] refl)

digit_is_no_blank : (digit : ℕ) → digit < 10 → is_without 32 ((48 + digit) ∷ []) ≡ true
digit_is_no_blank digit small = grind arith

digit_is_no_colon : (digit : ℕ) → digit < 10 → is_without 58 ((48 + digit) ∷ []) ≡ true
digit_is_no_colon digit small = grind arith

pub has_no_blank : (n : ℕ) → is_without 32 (decimal n) ≡ true
has_no_blank = without 32 digit_is_no_blank

pub has_no_colon : (n : ℕ) → is_without 58 (decimal n) ≡ true
has_no_colon = without 58 digit_is_no_colon

above_zero : (k : ℕ) → 0 < 10 ^ k
above_zero zero = omega arith
above_zero (suc k) = omega (arith, above_zero k)

-- a number of more digits than there is room for fills the room
fills : (k n : ℕ) (text : List ℕ) → 10 ^ k ≤ n → length (digits_onto k 10 false n text) ≡ k + length text
fills zero n text great = omega arith
fills (suc k) n text great =
    let some = above_zero k in
    let next : 10 ^ k ≤ n / 10 = omega arith in
    let more : (n / 10 == 0) ≡ false = ne_eqb (n / 10) 0 (λ is. omega arith) in
    ap (λ (b : Bool). length (cond b (last n ∷ text) (digits_onto k 10 false (n / 10) (last n ∷ text)))) more
    ∙ fills k (n / 10) (last n ∷ text) next ∙ omega arith

length_is : (n : ℕ) → 10 ^ 64 ≤ n → length (decimal n) ≡ 64
length_is n great = ap length (sym (onto_is n)) ∙ fills 64 n [] great

-- the text of a short number is that of no other number, of whatever size
pub same_short : (n short : ℕ) → short < 2 ^ 63 → decimal n ≡ decimal short → n ≡ short
same_short n short small same = by (ltb n (10 ^ 64)) refl
  where
    by : (fits : Bool) → ltb n (10 ^ 64) ≡ fits → n ≡ short
    by true fits =
        sym (decimal_is_IsNumeral_wide n (ltb-true _ _ fits)).1 ∙ ap (digits_value 10) same ∙ (decimal_is_IsNumeral_wide short (omega arith)).1
    by false past =
        let long = length_is n (ltb-false _ _ past) in
        let few = length-decimal-le 20 short (omega arith) (omega arith) (omega arith) in
        let alike : length (decimal n) ≡ length (decimal short) = ap length same in
        absurd (omega (arith, long, few, alike))
