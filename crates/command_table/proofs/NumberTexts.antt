-- Which text is the text of a number.
use Rattle.std.proofs.Common.{◌≡◌, ◌≢◌, ℕ, List, Bool, true, false, cond, ℤ, pos, negsuc, FitsSigned, w64, Some, None, Result, Ok, IsAscii, IsUtf8, bytes_eq, refl, sym, ap, ◌∙◌, subst, arith}
use Rattle.std.specs.Fmt.{signed_decimal}
use Rattle.std.specs.Str.Parse.{ParsesSigned, signed_digits_value}
use Rattle.std.proofs.lemmas.Bool.{and_from, and_parts, lt-ltb, ltb-true, leb-true, le-leb}
use Rattle.std.proofs.lemmas.Fmt.{IsAscii-signed, parse-signed_decimal}
use Rattle.std.proofs.lemmas.Slice.Eq.{bytes_eq-Decides}
use Rattle.std.proofs.lemmas.Str.{IsUtf8-from_ascii}
use Rattle.command_table.specs.Numbers.{fits, is_text_of, number_of}

pub fits_if : (n : ℤ) → FitsSigned w64 n → fits n ≡ true
fits_if (pos n) h = lt-ltb _ _ h.sfits
fits_if (negsuc n) h = and_from _ true (le-leb _ _ (omega (arith, h.sfits))) refl

pub fits_only_if : (n : ℤ) → fits n ≡ true → FitsSigned w64 n
fits_only_if (pos n) e = record { sfits = ltb-true _ _ e }
fits_only_if (negsuc n) e = record { sfits = omega (arith, leb-true _ _ (and_parts _ true e).0) }

number_by : (text : List ℕ) (b : Bool) → is_text_of text (signed_digits_value 10 text) ≡ b → number_of text ≡ cond b (Some (signed_digits_value 10 text)) None
unfolding number_of
number_by text b e = ap (λ t. cond t (Some (signed_digits_value 10 text)) None) e

-- the text of the number that its digits tell
pub is_number : (text : List ℕ) (n : ℤ) → FitsSigned w64 n → n ≡ signed_digits_value 10 text → text ≡ signed_decimal n → number_of text ≡ Some n
is_number text n f told same =
    let there : is_text_of text n ≡ true = and_from _ _ (fits_if n f) ((bytes_eq-Decides text (signed_decimal n)).1 same) in
    number_by text true (ap (is_text_of text) (sym told) ∙ there) ∙ ap Some (sym told)

-- any other text
no_number : (text : List ℕ) → ((n : ℤ) → n ≡ signed_digits_value 10 text → FitsSigned w64 n → text ≡ signed_decimal n → ⊥) → number_of text ≡ None
no_number text other =
    let n = signed_digits_value 10 text in
    elim (is_text_of text n) as (λ b. is_text_of text n ≡ b → number_of text ≡ None) [
      | true ↦ λ e. let parts = and_parts (fits n) (bytes_eq text (signed_decimal n)) e in
          absurd (other n refl (fits_only_if n parts.0) ((bytes_eq-Decides text (signed_decimal n)).0 parts.1))
      | false ↦ λ e. number_by text false e
    ] refl

pub another_text : (text : List ℕ) (n : ℤ) → n ≡ signed_digits_value 10 text → text ≢ signed_decimal n → number_of text ≡ None
another_text text n told apart = no_number text (λ m is f same. apart (same ∙ ap signed_decimal (is ∙ sym told)))

pub no_utf8 : (text : List ℕ) → ¬ (IsUtf8 text) → number_of text ≡ None
no_utf8 text bad = no_number text (λ n is f same. bad (IsUtf8-from_ascii text (subst IsAscii (sym same) (IsAscii-signed n f.sfits))))

pub not_parsed : {E : Type 0} (text : List ℕ) (r : Result ℤ E) → ParsesSigned w64 10 text r → ((n : ℤ) → r ≢ Ok n) → number_of text ≡ None
not_parsed text r parsed bad = no_number text (λ n is f same. bad n (parse-signed_decimal w64 n text r f f.sfits same parsed))
