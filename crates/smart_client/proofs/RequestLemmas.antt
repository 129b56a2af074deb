-- Short requests.
use Rattle.std.proofs.Common.{◌≡◌, ◌≤◌, ◌<◌, ◌+◌, ◌^◌, ◌∷◌, ◌++◌, ℕ, arith, length, length-append, List, []}
use Rattle.std.specs.Prelude.{decimal}
use Rattle.std.proofs.lemmas.Fmt.{length-decimal-le}
use Rattle.std.proofs.lemmas.List.Elements.{All-cons, All-nil}
use Rattle.resp_values.specs.Request.{IsRequest, bulk_spelling, bulks_spelling, crlf, header_spelling, request_spelling}
use Rattle.resp_values.specs.declared.words.TheConstants.{MOST_WORD_BYTES}

below_hundred : (n : ℕ) → n < 100 → length (decimal n) ≤ 2
below_hundred n small =
    let some : 0 < 2 = omega arith in
    let below : n < 10 ^ 2 = small in
    let wide : n < 2 ^ 64 = omega (arith, small) in
    length-decimal-le 2 n some below wide

header_len : (mark number : ℕ) → length (header_spelling mark number) ≡ length (decimal number) + 3
header_len mark number = omega (arith, length-append (decimal number) crlf)

short_bulk : (word : List ℕ) → length word ≤ 20 → length (bulk_spelling word) ≤ 27
short_bulk word short =
    let head = header_len 36 (length word) in
    let digits = below_hundred (length word) (omega (arith, short)) in
    let behind = length-append (header_spelling 36 (length word) ++ word) crlf in
    let before = length-append (header_spelling 36 (length word)) word in
    omega (arith, short, head, digits, behind, before)

short_pair : (first second : List ℕ) → length first ≤ 20 → length second ≤ 20 → length (request_spelling (first ∷ second ∷ [])) ≤ 100
short_pair first second one other =
    let head = header_len 42 2 in
    let digits = below_hundred 2 (omega arith) in
    let all = length-append (header_spelling 42 2) (bulks_spelling (first ∷ second ∷ [])) in
    let words = length-append (bulk_spelling first) (bulks_spelling (second ∷ [])) in
    let last = length-append {A = ℕ} (bulk_spelling second) [] in
    omega (arith, head, digits, all, words, last, short_bulk first one, short_bulk second other)

-- two short words are a request
pub two_are_a_request : (first second : List ℕ) → length first ≤ 20 → length second ≤ 20 → IsRequest (first ∷ second ∷ [])
two_are_a_request first second one other = record {
  some = omega arith;
  limits = record {
    each = record {
      few = omega arith;
      short = All-cons (λ (word : List ℕ). length word ≤ MOST_WORD_BYTES) first (second ∷ []) (omega (arith, one))
          (All-cons (λ (word : List ℕ). length word ≤ MOST_WORD_BYTES) second [] (omega (arith, other)) (All-nil (λ (word : List ℕ). length word ≤ MOST_WORD_BYTES)));
    };
    all = omega (arith, short_pair first second one other);
  };
}

pub short_number : (n : ℕ) → n < 2 ^ 63 → length (decimal n) ≤ 20
short_number n small =
    let below : n < 10 ^ 20 = omega (arith, small) in
    let wide : n < 2 ^ 64 = omega (arith, small) in
    let some : 0 < 20 = omega arith in
    length-decimal-le 20 n some below wide
