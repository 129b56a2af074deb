-- The decimal texts of numbers: how they are read, and which bytes are in them.
use Rattle.std.proofs.Common.{◌≡◌, ℕ, ◌+◌, ◌<◌, ◌≤◌, ◌==◌, ◌^◌, ◌%◌, Bool, true, false, cond, not, List, [], ◌∷◌, ◌++◌, get_or, ℤ, pos, Some, None, refl, sym, ap, subst, ◌∙◌, arith}
use Rattle.std.specs.Prelude.{decimal}
use Rattle.std.specs.Fmt.{signed_decimal}
use Rattle.std.specs.Str.{bytes_eq}
use Rattle.std.specs.Str.Parse.{digits_value, signed_digits_value, starts_with_minus}
use Rattle.std.proofs.lemmas.Bool.{and_from, and_parts, ne_eqb}
use Rattle.std.proofs.lemmas.Fmt.{decimal_by_steps, decimal_is_IsNumeral}
use Rattle.std.proofs.lemmas.List.Folds.{list_all-append}
use Rattle.std.proofs.lemmas.Slice.Eq.{bytes_eq-Decides}
use Rattle.command_table.proofs.NumberTexts.{is_number}
use Rattle.command_table.specs.Numbers.{fits, number_of, is_text_of}
use Rattle.redirection.specs.Splitting.{is_without}

-- digits come behind the blank, and before the colon
digit_is_no_blank : (digit : ℕ) → is_without 32 ((48 + digit) ∷ []) ≡ true
digit_is_no_blank digit = grind arith

digit_is_no_colon : (digit : ℕ) → digit < 10 → is_without 58 ((48 + digit) ∷ []) ≡ true
digit_is_no_colon digit small = grind arith

pub without_both : (byte : ℕ) (front rest : List ℕ) → is_without byte front ≡ true → is_without byte rest ≡ true → is_without byte (front ++ rest) ≡ true
without_both byte front rest one other = list_all-append (λ x. not (x == byte)) front rest ∙ and_from _ _ one other

pub number_has_no_blank : (n : ℕ) → n < 2 ^ 64 → is_without 32 (decimal n) ≡ true
number_has_no_blank =
    decimal_by_steps (λ _ text. is_without 32 text ≡ true) (λ n _. digit_is_no_blank n)
    (λ n text _ front. without_both 32 text ((48 + n % 10) ∷ []) front (digit_is_no_blank (n % 10)))

pub number_has_no_colon : (n : ℕ) → n < 2 ^ 64 → is_without 58 (decimal n) ≡ true
number_has_no_colon =
    decimal_by_steps (λ _ text. is_without 58 text ≡ true) (λ n small. digit_is_no_colon n small)
    (λ n text _ front. without_both 58 text ((48 + n % 10) ∷ []) front (digit_is_no_colon (n % 10) (omega arith)))

digit_behind : (text : List ℕ) (digit : ℕ) → 48 ≤ get_or text 0 0 → 48 ≤ get_or (text ++ (48 + digit) ∷ []) 0 0
digit_behind [] digit first = omega arith
digit_behind (c ∷ text) digit first = first

-- the first digit is neither a minus nor a plus
begins_with_digit : (n : ℕ) → n < 2 ^ 64 → 48 ≤ get_or (decimal n) 0 0
begins_with_digit =
    decimal_by_steps (λ _ text. 48 ≤ get_or text 0 0) (λ n _. omega arith) (λ n text _ first. digit_behind text (n % 10) first)

signs_of : (text : List ℕ) (minus plus : Bool) → starts_with_minus text ≡ minus → (get_or text 0 0 == 43) ≡ plus → minus ≡ false → plus ≡ false
    → signed_digits_value 10 text ≡ pos (digits_value 10 text)
signs_of text minus plus has_minus has_plus no_minus no_plus = rw (has_minus, has_plus, no_minus, no_plus) refl

tells : (n : ℕ) → n < 2 ^ 64 → signed_digits_value 10 (decimal n) ≡ pos n
tells n small =
    let first = begins_with_digit n small in
    signs_of (decimal n) false false (ne_eqb _ _ (λ is. omega arith)) (ne_eqb _ _ (λ is. omega arith)) refl refl ∙ ap pos (decimal_is_IsNumeral n small).1

-- a number that is read has this text
pub read_is_written : (text : List ℕ) (z : ℤ) → number_of text ≡ Some z → (text ≡ signed_decimal z) × (fits z ≡ true)
unfolding number_of
read_is_written text z is =
    let n : ℤ = signed_digits_value 10 text in
    elim (is_text_of text n) as (λ b. is_text_of text n ≡ b → cond b (Some n) None ≡ Some z → (text ≡ signed_decimal z) × (fits z ≡ true)) [
      | true ↦ λ passes same.
          let parts = and_parts (fits n) (bytes_eq text (signed_decimal n)) passes in
          let same_number : n ≡ z = cc in
          subst (λ (m : ℤ). (text ≡ signed_decimal m) × (fits m ≡ true)) same_number ((bytes_eq-Decides text (signed_decimal n)).0 parts.1, parts.0)
      | false ↦ λ passes same. cc
    ] refl is

-- a number that has the text is read
pub written_is_read : (n : ℕ) → n < 2 ^ 63 → number_of (decimal n) ≡ Some (pos n)
written_is_read n small = is_number (decimal n) (pos n) (record { sfits = small }) (sym (tells n (omega arith))) refl
