-- How many keys one request can name.
use Rattle.std.proofs.Common.{◌≡◌, ◌⊎◌, ◌+◌, ◌^◌, ◌<◌, ◌≤◌, ℕ, zero, suc, Bool, true, false, ◌&&◌, List, [], ◌∷◌, ◌++◌, Option, length, length-append, append-nil, take, get_or, inl, inr, refl, ap, sym, subst, ◌∙◌, add-one, arith, codes}
use Rattle.std.proofs.lemmas.Bool.{and_from, and_parts, le-leb, leb-true, both_ways}
use Rattle.std.proofs.lemmas.Fmt.{length-decimal-le}
use Rattle.std.proofs.lemmas.List.{length-take-le, take_all}
use Rattle.std.proofs.lemmas.List.Folds.{list_all-append, list_all_more}
use Rattle.std.proofs.Math.Seq.{take-length}
use Rattle.std.specs.List.{AllByRecursion, list_all}
use Rattle.std.specs.Prelude.{decimal, nat_le, unwrap_or}
use Rattle.redirection.specs.Address.{Place}
use Rattle.resp_values.proofs.Each.{each_by_index}
use Rattle.resp_values.proofs.Spellings.{bulk_len, bulks_len-append, bulks_len-more, request_len}
use Rattle.resp_values.specs.Request.{IsRequest, bulk_spelling, bulks_spelling, header_spelling, request_spelling}
use Rattle.resp_values.specs.declared.words.TheConstants.{MOST_WORDS, MOST_WORD_BYTES, MOST_REQUEST_BYTES}
use Rattle.resharder.proofs.FrontLemmas.{longest_front}
use Rattle.resharder.proofs.RequestLemmas.{header_len, short_number}
use Rattle.resharder.specs.Migration.{keep_limits, keys_at_once}
use Rattle.resharder.specs.Orders.{migrate_words}

-- ---- limits as a test, and as a fact

abbrev pub is_short : List ℕ → Bool
is_short word = nat_le (length word) MOST_WORD_BYTES

each_short : (words : List (List ℕ)) → list_all is_short words ≡ true → AllByRecursion (λ word. length word ≤ MOST_WORD_BYTES) words
each_short [] short = tt
each_short (word ∷ words) short =
    let parts = and_parts (is_short word) (list_all is_short words) short in
    (leb-true _ _ parts.0, each_short words parts.1)

-- what the test asks of words
record Keeps (words : List (List ℕ)) : Type 0 where
  few : length words ≤ MOST_WORDS
  short : list_all is_short words ≡ true
  all : length (request_spelling words) ≤ MOST_REQUEST_BYTES

keeps : (words : List (List ℕ)) → keep_limits words ≡ true → Keeps words
keeps words keep =
    let both = and_parts (nat_le (length words) MOST_WORDS && list_all is_short words) (nat_le (length (request_spelling words)) MOST_REQUEST_BYTES) keep in
    let each = and_parts (nat_le (length words) MOST_WORDS) (list_all is_short words) both.0 in
    record { few = leb-true _ _ each.0; short = each.1; all = leb-true _ _ both.1 }

keep : (words : List (List ℕ)) → Keeps words → keep_limits words ≡ true
keep words keeps = and_from _ _ (and_from _ _ (le-leb _ _ keeps.few) keeps.short) (le-leb _ _ keeps.all)

-- MIGRATE that keeps the limits is a request
pub is_migration : (place : Place) (keys : List (List ℕ)) → keep_limits (migrate_words place keys) ≡ true → IsRequest (migrate_words place keys)
is_migration place keys keep =
    let kept = keeps (migrate_words place keys) keep in
    record {
      some = omega arith;
      limits = record {
        each = record { few = kept.few; short = each_by_index (λ (word : List ℕ). length word ≤ MOST_WORD_BYTES) (migrate_words place keys) (each_short (migrate_words place keys) kept.short) };
        all = kept.all;
      };
    }

-- ---- fewer words keep the limits too

least_bulks : (word : List ℕ) (words : List (List ℕ)) → 5 ≤ length (bulks_spelling (word ∷ words))
least_bulks word words = omega (arith, bulk_len word, header_len 36 (length word), length-append (bulk_spelling word) (bulks_spelling words))

-- the count of words gets shorter by four digits at most, and a word takes five bytes or more
fewer_bytes : (words more : List (List ℕ)) → length words ≤ MOST_WORDS → length (request_spelling words) ≤ length (request_spelling (words ++ more))
fewer_bytes words [] few = omega (arith, ap (λ (some : List (List ℕ)). length (request_spelling some)) (append-nil words))
fewer_bytes words (word ∷ more) few =
    let below : length words < 10 ^ 5 = omega (arith, few) in
    let small : length words < 2 ^ 64 = omega (arith, few) in
    let digits : length (decimal (length words)) ≤ 5 = length-decimal-le 5 (length words) (omega arith) below small in
    omega (
      arith,
      digits,
      header_len 42 (length words),
      header_len 42 (length (words ++ word ∷ more)),
      request_len words,
      request_len (words ++ word ∷ more),
      bulks_len-append words (word ∷ more),
      least_bulks word more,
    )

-- so fewer words keep the limits too
fewer : (words more : List (List ℕ)) → keep_limits (words ++ more) ≡ true → keep_limits words ≡ true
fewer words more longer =
    let kept = keeps (words ++ more) longer in
    let few : length words ≤ MOST_WORDS = omega (arith, kept.few, length-append words more) in
    let short = and_parts (list_all is_short words) (list_all is_short more) (sym (list_all-append is_short words more) ∙ kept.short) in
    keep words (record { few = few; short = short.0; all = omega (arith, kept.all, fewer_bytes words more few) })

-- ---- keys one behind another

-- the bytes of the words of MIGRATE
abbrev pub bytes_of : Place → List (List ℕ) → ℕ
bytes_of place keys = length (bulks_spelling (migrate_words place keys))

all_bytes : (place : Place) (keys : List (List ℕ)) → bytes_of place keys ≡ bytes_of place [] + length (bulks_spelling keys)
all_bytes place keys = bulks_len-append (migrate_words place []) keys

-- those that stand before the keys
pub bytes_before : (place : Place) → bytes_of place []
    ≡ length (bulk_spelling (codes "MIGRATE")) + length (bulk_spelling place.host) + length (bulk_spelling (decimal place.port)) + length (bulk_spelling [])
    + length (bulk_spelling (codes "0"))
    + length (bulk_spelling (codes "100"))
    + length (bulk_spelling (codes "KEYS"))
bytes_before place =
    omega (
      arith,
      length-append (bulk_spelling (codes "MIGRATE")) (bulks_spelling (place.host ∷ decimal place.port ∷ [] ∷ codes "0" ∷ codes "100" ∷ codes "KEYS" ∷ [])),
      length-append (bulk_spelling place.host) (bulks_spelling (decimal place.port ∷ [] ∷ codes "0" ∷ codes "100" ∷ codes "KEYS" ∷ [])),
      length-append (bulk_spelling (decimal place.port)) (bulks_spelling ([] ∷ codes "0" ∷ codes "100" ∷ codes "KEYS" ∷ [])),
      length-append {A = ℕ} (bulk_spelling []) (bulks_spelling (codes "0" ∷ codes "100" ∷ codes "KEYS" ∷ [])),
      length-append (bulk_spelling (codes "0")) (bulks_spelling (codes "100" ∷ codes "KEYS" ∷ [])),
      length-append (bulk_spelling (codes "100")) (bulks_spelling (codes "KEYS" ∷ [])),
      length-append {A = ℕ} (bulk_spelling (codes "KEYS")) [],
    )

-- one key more
pub bytes_more : (place : Place) (keys : List (List ℕ)) (i : ℕ) (key : List ℕ) (len more : ℕ) → i < length keys → key ≡ get_or keys i key → len ≡ bytes_of place (take i keys) → more ≡ length (bulk_spelling key)
    → len + more ≡ bytes_of place (take (i + 1) keys)
bytes_more place keys i key len more below is counted measured =
    omega (arith, counted, measured, ap (λ (word : List ℕ). length (bulk_spelling word)) is, all_bytes place (take i keys), all_bytes place (take (i + 1) keys), bulks_len-more keys i key below)

-- ---- as many keys as can be named

-- these can be named, and not one more
pub at_once : (place : Place) (keys : List (List ℕ)) (n : ℕ) → keep_limits (migrate_words place (take n keys)) ≡ true → (keep_limits (migrate_words place (take (suc n) keys)) ≡ false) ⊎ (length keys ≤ n)
    → take n keys ≡ keys_at_once place keys
unfolding keys_at_once
at_once place keys n kept end =
    sym (ap (λ (front : Option (List (List ℕ))). unwrap_or front []) (longest_front (λ front. keep_limits (migrate_words place front)) (λ front more. fewer (migrate_words place front) more) keys n kept end))

-- ---- what is counted says whether a request keeps the limits

with_short : (few short all : Bool) → short ≡ true → (few && all) ≡ (few && short && all)
with_short true short all is = sym (ap (λ b. b && all) is)
with_short false short all is = refl

-- so many words that take so many bytes
abbrev pub is_within : ℕ → ℕ → Bool
is_within count len = nat_le count MOST_WORDS && nat_le (length (header_spelling 42 count) + len) MOST_REQUEST_BYTES

-- where a host and a port are short, and the keys are
pub are_within : (place : Place) (keys : List (List ℕ)) (count len : ℕ) → length place.host ≤ 255 → length (decimal place.port) ≤ 20 → list_all is_short keys ≡ true → count ≡ length keys + 7 → len ≡ bytes_of place keys
    → is_within count len ≡ keep_limits (migrate_words place keys)
are_within place keys count len host port short counted measured =
    ap (λ n. nat_le count MOST_WORDS && nat_le n MOST_REQUEST_BYTES) bytes
    ∙ ap (λ n. nat_le n MOST_WORDS && nat_le (length (request_spelling words)) MOST_REQUEST_BYTES) same
    ∙ with_short (nat_le (length words) MOST_WORDS) (list_all is_short words) (nat_le (length (request_spelling words)) MOST_REQUEST_BYTES) all_short
  where
    words : List (List ℕ)
    words = migrate_words place keys

    same : count ≡ length words
    same = omega (arith, counted)

    bytes : length (header_spelling 42 count) + len ≡ length (request_spelling words)
    bytes = omega (arith, measured, ap (λ n. length (header_spelling 42 n)) same, request_len words)

    all_short : list_all is_short words ≡ true
    all_short = and_from _ _ (le-leb (length place.host) MOST_WORD_BYTES (omega (arith, host))) (and_from _ _ (le-leb (length (decimal place.port)) MOST_WORD_BYTES (omega (arith, port))) short)

-- keys so far, and what was counted of them
pub record IsCounted (place : Place) (keys : List (List ℕ)) (len : ℕ) : Type 0 where
  pub short : list_all is_short keys ≡ true
  pub measured : len ≡ bytes_of place keys
  pub keep : keep_limits (migrate_words place keys) ≡ true

-- a key behind them
module _ (place : Place) (keys : List (List ℕ)) (i : ℕ) (key : List ℕ) (len more : ℕ) (within : Bool) (host : length place.host ≤ 255) (port : length (decimal place.port) ≤ 20) (below : i < length keys)
    (is : key ≡ get_or keys i key) (short : length key ≤ MOST_WORD_BYTES) (measured : more ≡ length (bulk_spelling key)) (counted : IsCounted place (take i keys) len) (tested : within ≡ is_within (7 + i + 1) (len + more)) where
  short_more : list_all is_short (take (i + 1) keys) ≡ true
  short_more = list_all_more is_short keys i key below ∙ and_from _ _ counted.short (le-leb (length (get_or keys i key)) MOST_WORD_BYTES (omega (arith, ap (λ (word : List ℕ). length word) is, short)))

  measured_more : len + more ≡ bytes_of place (take (i + 1) keys)
  measured_more = bytes_more place keys i key len more below is counted.measured measured

  within_more : within ≡ keep_limits (migrate_words place (take (i + 1) keys))
  within_more = tested ∙ are_within place (take (i + 1) keys) (7 + i + 1) (len + more) host port short_more (omega (arith, length-take-le (i + 1) keys (omega (arith, below)))) measured_more

  pub counted_more : within ≡ true → IsCounted place (take (i + 1) keys) (len + more)
  counted_more passed = record { short = short_more; measured = measured_more; keep = sym within_more ∙ passed }

  -- with it there are too many
  pub at_most : within ≡ false → take i keys ≡ keys_at_once place keys
  at_most failed = at_once place keys i counted.keep (inl (subst (λ n. keep_limits (migrate_words place (take n keys)) ≡ false) (add-one i) (sym within_more ∙ failed)))

-- all can be named
pub all_at_once : (place : Place) (keys : List (List ℕ)) (i len : ℕ) → IsCounted place (take i keys) len → length keys ≤ i → take (length keys) keys ≡ keys_at_once place keys
all_at_once place keys i len counted all = take-length keys ∙ sym (take_all i keys all) ∙ at_once place keys i counted.keep (inr all)

-- the first key can be, however long it is
pub behind_first : (place : Place) (keys : List (List ℕ)) (i len more : ℕ) (within : Bool) → bytes_of place [] ≤ 500 → IsCounted place (take i keys) len → more ≤ MOST_WORD_BYTES + 25 → within ≡ is_within (7 + i + 1) (len + more) → within ≡ false → 0 < i
behind_first place keys zero len more within before counted short tested failed =
    absurd (both_ways within failed (tested ∙ and_from _ _ refl (le-leb (length (header_spelling 42 8) + (len + more)) MOST_REQUEST_BYTES (omega (arith, counted.measured, before, short, header_len 42 8, short_number 8 (omega arith))))))
behind_first place keys (suc i) len more within before counted short tested failed = omega arith
