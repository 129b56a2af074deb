-- Short words make requests that keep the limits.
use Rattle.std.proofs.Common.{◌≡◌, ℕ, true, ◌+◌, ◌*◌, ◌≤◌, ◌^◌, List, [], ◌∷◌, length, length-append, ap, codes, arith}
use Rattle.std.proofs.lemmas.Bool.{and_parts, leb-true}
use Rattle.std.proofs.lemmas.Fmt.{decimal_nonempty, length-decimal-le}
use Rattle.std.specs.List.{AllByRecursion}
use Rattle.std.specs.Prelude.{decimal, nat_le}
use Rattle.hash.specs.Pairs.{Pairs}
use Rattle.hash.specs.Size.{size_of, words_of}
use Rattle.keyspace.proofs.Fitting.{words_count}
use Rattle.keyspace.specs.Rebuilding.{fits_hash, fits_request, rebuilding}
use Rattle.keyspace.specs.Strings.{fits_string}
use Rattle.keyspace.specs.declared.value.Value.TheVariants.{Str, Hash}
use Rattle.resp_values.proofs.Each.{each_by_index, each_by_recursion}
use Rattle.resp_values.proofs.Spellings.{bulk_len, request_len}
use Rattle.resp_values.specs.Request.{IsRequest, bulk_spelling, bulks_spelling, crlf, header_spelling, request_spelling}
use Rattle.resp_values.specs.declared.words.TheConstants.{MOST_WORD_BYTES, MOST_WORDS, MOST_REQUEST_BYTES}

-- the word is within the limit
abbrev pub IsShort : List ℕ → Type 0
IsShort word = length word ≤ MOST_WORD_BYTES

abbrev pub IsShortPair : List ℕ × List ℕ → Type 0
IsShortPair pair = IsShort pair.0 × IsShort pair.1

abbrev pub AreShortPairs : List (List ℕ × List ℕ) → Type 0
AreShortPairs pairs = AllByRecursion IsShortPair pairs

-- ---- how long they are spelled

-- a count of words, or a length, has at most seven digits
header_most : (mark number : ℕ) → number ≤ 2 ^ 23 → length (header_spelling mark number) ≤ 10
header_most mark number small =
    let digits = length-decimal-le 7 number (omega arith) (omega (arith, small)) (omega (arith, small)) in
    omega (arith, digits, length-append (decimal number) crlf)

header_least : (mark number : ℕ) → number ≤ 2 ^ 23 → 4 ≤ length (header_spelling mark number)
header_least mark number small =
    let some = decimal_nonempty number (omega (arith, small)) in
    omega (arith, some, length-append (decimal number) crlf)

header_three : (mark : ℕ) → length (header_spelling mark 3) ≤ 4
header_three mark =
    let digits = length-decimal-le 1 3 (omega arith) (omega arith) (omega arith) in
    omega (arith, digits, length-append (decimal 3) crlf)

bulk_most : (word : List ℕ) → IsShort word → length (bulk_spelling word) ≤ length word + 12
bulk_most word short =
    let head = header_most 36 (length word) short in
    omega (arith, head, bulk_len word)

pub bulk_least : (word : List ℕ) → IsShort word → 6 ≤ length (bulk_spelling word)
bulk_least word short =
    let head = header_least 36 (length word) short in
    omega (arith, head, bulk_len word)

-- what stands before the words of a request is spelled in 13 bytes or more, where its first word has three letters or more
pub front_least : (name : List ℕ) (words : List (List ℕ)) → IsRequest (name ∷ words) → 3 ≤ length name → 13 + length (bulks_spelling words) ≤ MOST_REQUEST_BYTES
front_least name words request long =
    let few = request.limits.each.few in
    let short : IsShort name = (each_by_recursion IsShort (name ∷ words) request.limits.each.short).0 in
    omega (
      arith,
      long,
      request.limits.all,
      request_len (name ∷ words),
      header_least 42 (length (name ∷ words)) (omega (arith, few)),
      length-append (bulk_spelling name) (bulks_spelling words),
      bulk_len name,
      header_least 36 (length name) short,
    )

-- ---- a name and a key

pub two_words : (name key : List ℕ) → length name ≤ 4 → IsShort key → IsRequest (name ∷ key ∷ [])
two_words name key named short =
    let short_name : IsShort name = omega (arith, named) in
    record {
      some = omega arith;
      limits = record {
        each = record { few = omega arith; short = each_by_index IsShort (name ∷ key ∷ []) (short_name, (short, tt)) };
        all = omega (
          arith,
          named,
          short,
          request_len (name ∷ key ∷ []),
          header_most 42 2 (omega arith),
          length-append (bulk_spelling name) (bulks_spelling (key ∷ [])),
          length-append {A = ℕ} (bulk_spelling key) [],
          bulk_most name short_name,
          bulk_most key short,
        );
      };
    }

-- the key of a request is short
pub first_short : (name key : List ℕ) (words : List (List ℕ)) → IsRequest (name ∷ key ∷ words) → IsShort key
first_short name key words request = (each_by_recursion IsShort (name ∷ key ∷ words) request.limits.each.short).1.0

-- ---- the request that makes a key with its value

module _ (key bytes : List ℕ) (short_key : IsShort key) (short : IsShort bytes) where
  with_string : length (request_spelling (rebuilding key (Str bytes))) ≤ MOST_REQUEST_BYTES → IsRequest (rebuilding key (Str bytes))
  with_string all = record {
    some = omega arith;
    limits = record { each = record { few = omega arith; short = each_by_index IsShort (rebuilding key (Str bytes)) (omega arith, (short_key, (short, tt))) }; all = all };
  }

  -- there is room for the key and the string
  pub string_is : 13 + length (bulk_spelling key) + length (bulk_spelling bytes) ≤ MOST_REQUEST_BYTES → IsRequest (rebuilding key (Str bytes))
  string_is room = with_string (omega (
    arith,
    room,
    request_len (rebuilding key (Str bytes)),
    header_three 42,
    header_three 36,
    bulk_len (codes "SET"),
    length-append (bulk_spelling (codes "SET")) (bulks_spelling (key ∷ bytes ∷ [])),
    length-append (bulk_spelling key) (bulks_spelling (bytes ∷ [])),
    length-append {A = ℕ} (bulk_spelling bytes) [],
  ))

-- or it was asked for
pub fitting_is : (key bytes : List ℕ) → IsShort key → fits_string key bytes ≡ true → IsRequest (rebuilding key (Str bytes))
fitting_is key bytes short_key fits =
    let parts = and_parts (nat_le (length bytes) MOST_WORD_BYTES) (fits_request (rebuilding key (Str bytes))) fits in
    let asked = and_parts (nat_le (length (rebuilding key (Str bytes))) MOST_WORDS) (nat_le (length (request_spelling (rebuilding key (Str bytes)))) MOST_REQUEST_BYTES) parts.1 in
    with_string key bytes short_key (leb-true _ _ parts.0) (leb-true _ _ asked.1)

-- a short string beside any key
pub short_string_is : (key bytes : List ℕ) → IsShort key → length bytes ≤ 21 → IsRequest (rebuilding key (Str bytes))
short_string_is key bytes short_key few =
    let short : IsShort bytes = omega (arith, few) in
    string_is key bytes short_key short (omega (arith, short_key, few, bulk_most key short_key, bulk_most bytes short))

fields_short : (pairs : Pairs) → AreShortPairs pairs → AllByRecursion IsShort (words_of pairs)
fields_short [] short = tt
fields_short (pair ∷ pairs) short = (short.0.0, (short.0.1, fields_short pairs short.1))

short_fields : (pairs : Pairs) → AllByRecursion IsShort (words_of pairs) → AreShortPairs pairs
short_fields [] short = tt
short_fields (pair ∷ pairs) short = ((short.0, short.1.0), short_fields pairs short.1.1)

pub pairs_short : (key : List ℕ) (pairs : Pairs) → IsRequest (rebuilding key (Hash pairs)) → AreShortPairs pairs
pairs_short key pairs request = short_fields pairs (each_by_recursion IsShort (rebuilding key (Hash pairs)) request.limits.each.short).1.1

module _ (key : List ℕ) (short_key : IsShort key) where
  with_fields : (pairs : Pairs) → AreShortPairs pairs → length (rebuilding key (Hash pairs)) ≤ MOST_WORDS → length (request_spelling (rebuilding key (Hash pairs))) ≤ MOST_REQUEST_BYTES
      → IsRequest (rebuilding key (Hash pairs))
  with_fields pairs short few all = record {
    some = omega arith;
    limits = record { each = record { few = few; short = each_by_index IsShort (rebuilding key (Hash pairs)) (omega arith, (short_key, fields_short pairs short)) }; all = all };
  }

  pub hash_is : (pairs : Pairs) → AreShortPairs pairs → fits_hash key pairs ≡ true → IsRequest (rebuilding key (Hash pairs))
  hash_is pairs short fits =
      let parts = and_parts (nat_le (length (rebuilding key (Hash pairs))) MOST_WORDS) (nat_le (length (request_spelling (rebuilding key (Hash pairs)))) MOST_REQUEST_BYTES) fits in
      with_fields pairs short (leb-true _ _ parts.0) (leb-true _ _ parts.1)

  -- its request has so many bytes
  bytes_of : (pairs : Pairs) → length (request_spelling (rebuilding key (Hash pairs)))
      ≡ length (header_spelling 42 (2 + 2 * length pairs)) + length (bulk_spelling (codes "HSET")) + length (bulk_spelling key) + size_of pairs
  bytes_of pairs =
      let count : length (rebuilding key (Hash pairs)) ≡ 2 + 2 * length pairs = omega (arith, words_count pairs) in
      omega (
        arith,
        request_len (rebuilding key (Hash pairs)),
        ap (λ (n : ℕ). length (header_spelling 42 n)) count,
        length-append (bulk_spelling (codes "HSET")) (bulks_spelling (key ∷ words_of pairs)),
        length-append (bulk_spelling key) (bulks_spelling (words_of pairs)),
      )

  -- a hash without one of its fields is spelled in fewer bytes
  pub less_is : (pairs rest : Pairs) → AreShortPairs rest → length rest + 1 ≡ length pairs → size_of rest + 12 ≤ size_of pairs → IsRequest (rebuilding key (Hash pairs)) → IsRequest (rebuilding key (Hash rest))
  less_is pairs rest short count size request =
      let few = request.limits.each.few in
      let all = request.limits.all in
      let before = bytes_of pairs in
      let after = bytes_of rest in
      let words = words_count pairs in
      let left = words_count rest in
      let head = header_most 42 (2 + 2 * length rest) (omega (arith, few, count, words)) in
      let old = header_least 42 (2 + 2 * length pairs) (omega (arith, few, words)) in
      with_fields rest short (omega (arith, few, count, words, left)) (omega (arith, all, before, after, size, head, old))
