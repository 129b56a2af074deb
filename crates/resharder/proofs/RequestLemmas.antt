-- Requests of a few short words.
use Rattle.std.proofs.Common.{◌≡◌, ◌≤◌, ◌<◌, ◌+◌, ◌*◌, ◌^◌, ◌∷◌, ◌++◌, ℕ, arith, length, length-append, List, [], true, ◌&&◌}
use Rattle.std.proofs.lemmas.Bool.{and_parts, leb-true}
use Rattle.std.specs.List.{list_all}
use Rattle.std.specs.Prelude.{All, decimal, nat_le}
use Rattle.cluster_config.specs.Texts.{is_host, is_host_character}
use Rattle.std.proofs.lemmas.Fmt.{length-decimal-le}
use Rattle.std.proofs.lemmas.List.Elements.{All-cons, All-nil}
use Rattle.resp_values.specs.Request.{IsRequest, bulk_spelling, bulks_spelling, crlf, header_spelling}
use Rattle.resp_values.specs.declared.words.TheConstants.{MOST_WORD_BYTES}
use Rattle.resharder.specs.Orders.{AreShort}

-- a number of a move, of a slot or of a port has few digits
pub short_number : (n : ℕ) → n < 2 ^ 63 → length (decimal n) ≤ 20
short_number n small =
    let below : n < 10 ^ 20 = omega (arith, small) in
    let wide : n < 2 ^ 64 = omega (arith, small) in
    let some : 0 < 20 = omega arith in
    length-decimal-le 20 n some below wide

pub header_len : (mark number : ℕ) → length (header_spelling mark number) ≡ length (decimal number) + 3
header_len mark number = omega (arith, length-append (decimal number) crlf)

any_bulk : (word : List ℕ) → length word ≤ MOST_WORD_BYTES → length (bulk_spelling word) ≤ length word + 25
any_bulk word short =
    let small : length word < 2 ^ 63 = omega (arith, short) in
    let head = header_len 36 (length word) in
    let digits = short_number (length word) small in
    let behind = length-append (header_spelling 36 (length word) ++ word) crlf in
    let before = length-append (header_spelling 36 (length word)) word in
    omega (arith, head, digits, behind, before)

short_bulks : (words : List (List ℕ)) → AreShort words → length (bulks_spelling words) ≤ 65 * length words
short_bulks [] short = omega arith
short_bulks (word ∷ words) short =
    let behind = length-append (bulk_spelling word) (bulks_spelling words) in
    omega (arith, behind, short.0, any_bulk word (omega (arith, short.0)), short_bulks words short.1)

all_short : (words : List (List ℕ)) → AreShort words → All (λ word. length word ≤ MOST_WORD_BYTES) words
all_short [] short = All-nil (λ (word : List ℕ). length word ≤ MOST_WORD_BYTES)
all_short (word ∷ words) short = All-cons (λ (word : List ℕ). length word ≤ MOST_WORD_BYTES) word words (omega (arith, short.0)) (all_short words short.1)

-- a few short words are a request
pub few_are_a_request : (words : List (List ℕ)) → 1 ≤ length words → length words ≤ 6 → AreShort words → IsRequest words
few_are_a_request words some few short =
    let small : length words < 2 ^ 63 = omega (arith, few) in
    let head = header_len 42 (length words) in
    let digits = short_number (length words) small in
    let all = length-append (header_spelling 42 (length words)) (bulks_spelling words) in
    let bulks = short_bulks words short in
    record {
      some = omega (arith, some);
      limits = record {
        each = record { few = omega (arith, few); short = all_short words short };
        all = omega (arith, head, digits, all, bulks, few);
      };
    }

pub host_is_short : (host : List ℕ) → is_host host ≡ true → length host ≤ 255
host_is_short host is =
    let parts = and_parts (nat_le 1 (length host) && nat_le (length host) 255) (list_all is_host_character host) is in
    leb-true _ _ (and_parts (nat_le 1 (length host)) (nat_le (length host) 255) parts.0).1
