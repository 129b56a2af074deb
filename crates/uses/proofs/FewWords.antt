-- A key that SET brings is short enough for GET.
use Rattle.std.proofs.Common.{◌≡◌, ℕ, ◌+◌, ◌^◌, ◌<◌, ◌≤◌, List, [], ◌∷◌, ◌++◌, length, sym, subst, arith}
use Rattle.std.specs.Prelude.{codes, decimal}
use Rattle.std.proofs.lemmas.Fmt.{length-decimal-le}
use Rattle.std.proofs.lemmas.List.{length-append}
use Rattle.std.proofs.lemmas.List.Elements.{All-from_recursion}
use Rattle.resp_values.proofs.Each.{each_by_recursion}
use Rattle.resp_values.specs.Request.{IsRequest, bulk_spelling, bulks_spelling, crlf, header_spelling}
use Rattle.resp_values.specs.declared.words.TheConstants.{MOST_WORD_BYTES}

abbrev IsShort : List ℕ → Type 0
IsShort word = length word ≤ MOST_WORD_BYTES

header_len : (mark n : ℕ) → n < 10 ^ 10 → length (header_spelling mark n) ≤ 13
header_len mark n small = omega (arith, length-decimal-le 10 n (omega arith) small (omega arith), length-append (decimal n) crlf)

bulk_len : (word : List ℕ) → IsShort word → length (bulk_spelling word) ≤ length word + 15
bulk_len word short =
    omega (arith, header_len 36 (length word) (omega arith), length-append (header_spelling 36 (length word) ++ word) crlf, length-append (header_spelling 36 (length word)) word)

get_is : (key : List ℕ) → IsShort key → IsRequest (codes "GET" ∷ key ∷ [])
get_is key short = record {
  some = omega arith;
  limits = record {
    each = record { few = omega arith; short = All-from_recursion IsShort (codes "GET" ∷ key ∷ []) (omega arith, (short, tt)) };
    all = omega (
      arith,
      short,
      header_len 42 2 (omega arith),
      bulk_len (codes "GET") (omega arith),
      bulk_len key short,
      length-append (header_spelling 42 2) (bulks_spelling (codes "GET" ∷ key ∷ [])),
      length-append (bulk_spelling (codes "GET")) (bulks_spelling (key ∷ [])),
      length-append {A = ℕ} (bulk_spelling key) [],
    );
  };
}

pub get_is_request : (items : List (List ℕ)) (key : List ℕ) → items ≡ codes "GET" ∷ key ∷ [] → length key ≤ MOST_WORD_BYTES → IsRequest items
get_is_request items key is short = subst IsRequest (sym is) (get_is key short)

pub set_is_request : (items : List (List ℕ)) (key value : List ℕ) → items ≡ codes "SET" ∷ key ∷ value ∷ [] → IsRequest (codes "SET" ∷ key ∷ value ∷ []) → IsRequest items
set_is_request items key value is request = subst IsRequest (sym is) request

pub key_is_short : (key value : List ℕ) → IsRequest (codes "SET" ∷ key ∷ value ∷ []) → length key ≤ MOST_WORD_BYTES
key_is_short key value request = (each_by_recursion IsShort (codes "SET" ∷ key ∷ value ∷ []) request.limits.each.short).1.0
