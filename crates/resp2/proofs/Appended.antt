-- Requests and replies as bytes behind others.
use Rattle.std.proofs.Common.{◌≡◌, ◌<◌, ◌≤◌, ◌+◌, ◌/◌, ◌%◌, ℕ, List, [], ◌∷◌, ◌++◌, length, take, drop, take_all, take-append-drop, refl, sym, ap, ◌∙◌, arith}
use Rattle.std.proofs.Math.Seq.{take-append_seam}
use Rattle.std.proofs.lemmas.Fmt.{decimal_digit, decimal_step}
use Rattle.std.proofs.lemmas.List.{append_assoc}
use Rattle.std.specs.List.{flat_map}
use Rattle.resp_values.specs.Request.{bulk_spelling, bulks_spelling, crlf, header_spelling, request_spelling}
use Rattle.resp2.specs.Writing.{StayInFront}

bulks_spelled : (words : List (List ℕ)) → flat_map bulk_spelling words ≡ bulks_spelling words
bulks_spelled [] = refl
bulks_spelled (word ∷ words) = ap (λ bytes. bulk_spelling word ++ bytes) (bulks_spelled words)

pub request_spelled : (words : List (List ℕ)) → header_spelling 42 (length words) ++ flat_map bulk_spelling words ≡ request_spelling words
request_spelled words = ap (λ bytes. header_spelling 42 (length words) ++ bytes) (bulks_spelled words)

pub command_spelled : (before name : List ℕ) (words : List (List ℕ))
    → ((before ++ header_spelling 42 (length words + 1)) ++ bulk_spelling name) ++ flat_map bulk_spelling words ≡ before ++ request_spelling (name ∷ words)
command_spelled before name words =
    append_assoc (before ++ header_spelling 42 (length words + 1)) (bulk_spelling name) (flat_map bulk_spelling words)
    ∙ append_assoc before (header_spelling 42 (length words + 1)) (bulk_spelling name ++ flat_map bulk_spelling words)
    ∙ ap (λ bytes. before ++ (header_spelling 42 (length words + 1) ++ (bulk_spelling name ++ bytes))) (bulks_spelled words)
    ∙ ap (λ count. before ++ (header_spelling 42 count ++ (bulk_spelling name ++ bulks_spelling words))) (omega arith)

module _ (before after : List ℕ) (mark number : ℕ) where
  -- a number of one digit
  pub one_digit : (digit : ℕ) → number < 10 → digit ≡ 48 + number → after ≡ before ++ (mark ∷ digit ∷ 13 ∷ 10 ∷ []) → after ≡ before ++ header_spelling mark number
  one_digit digit small is more =
      more ∙ ap (λ d. before ++ (mark ∷ d ∷ 13 ∷ 10 ∷ [])) is ∙ ap (λ digits. before ++ (mark ∷ (digits ++ crlf))) (sym (decimal_digit number small))

  -- one of two
  pub two_digits : (tens ones : ℕ) → 10 ≤ number → number < 100 → tens ≡ 48 + number / 10 → ones ≡ 48 + number % 10
      → after ≡ before ++ (mark ∷ tens ∷ ones ∷ 13 ∷ 10 ∷ []) → after ≡ before ++ header_spelling mark number
  two_digits tens ones some small are is more =
      let few : number / 10 < 10 = omega (arith, small) in
      more ∙ ap (λ d. before ++ (mark ∷ d ∷ ones ∷ 13 ∷ 10 ∷ [])) are
      ∙ ap (λ d. before ++ (mark ∷ (48 + number / 10) ∷ d ∷ 13 ∷ 10 ∷ [])) is
      ∙ ap (λ digits. before ++ (mark ∷ (digits ++ crlf)))
      (sym (decimal_step number some (omega (arith, small)) ∙ ap (λ digits. digits ++ ((48 + number % 10) ∷ [])) (decimal_digit (number / 10) few)))

-- where memory is refused, what was there is in front of what was appended so far
pub none_stays : (before after : List ℕ) → after ≡ before → StayInFront before after
none_stays before after same = ap (λ (bytes : List ℕ). take (length before) bytes) same ∙ take_all (length before) before (omega arith)

pub one_stays : (before part after : List ℕ) → after ≡ before ++ part → StayInFront before after
one_stays before part after same = ap (λ (bytes : List ℕ). take (length before) bytes) same ∙ take-append_seam before part

pub two_stay : (before part other after : List ℕ) → after ≡ (before ++ part) ++ other → StayInFront before after
two_stay before part other after same = one_stays before (part ++ other) after (same ∙ append_assoc before part other)

pub stays_behind : (before part between after : List ℕ) → between ≡ before ++ part → StayInFront between after → StayInFront before after
stays_behind before part between after more stays =
    two_stay before part (drop (length between) after) after
    (sym (take-append-drop (length between) after) ∙ ap (λ (bytes : List ℕ). bytes ++ drop (length between) after) (stays ∙ more))
