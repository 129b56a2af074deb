-- What the reading of bytes says of requests, and of the bytes that may come, however many bytes a request may have.
use Rattle.std.proofs.Common.{◌≡◌, ℕ, ◌+◌, ◌-◌, ◌*◌, ◌^◌, ◌<◌, ◌≤◌, List, [], ◌∷◌, ◌++◌, length, refl, sym, ap, subst, ◌∙◌, append_assoc, arith, lit<}
use Rattle.std.specs.Prelude.{decimal, All, replicate}
use Rattle.std.proofs.lemmas.List.{append-nil, length-append, length-replicate}
use Rattle.std.proofs.lemmas.List.Elements.{All-cons, All-nil}
use Rattle.resp_header.specs.declared.fault.Fault.TheVariants.{Protocol}
use Rattle.resp_values.specs.declared.words.TheConstants.{MOST_WORDS, MOST_WORD_BYTES}
use Rattle.resp_values.specs.Request.{header_spelling, bulks_spelling, request_spelling, WordsKeepLimits}
use Rattle.resp2.specs.Stream.{stream_spelling, HasNumbers, IsBeginning, CountPasses, LengthPasses}
use Rattle.resp_header.specs.Reading.{Seen, Wants, Bad, Found, header_onto}
use Rattle.resp2.specs.Reading.{reading_words, request_at, bulk_onto, bulks_onto, request_onto}
use Rattle.resp2.proofs.MoreBytes.{Goes, request_goes, words_stay_bad, words_stay_found}
use Rattle.resp2.proofs.RequestReading.{AreShort, RequestMeans, request_means, empty_words, empty_count, empty_short, header_onto-append, bulks_onto-append}
use Rattle.resp2.proofs.RequestRoundTrip.{request_again, request_decided, length_decided, count_decided, IsDecided}
use Rattle.resp2.proofs.Spellings.{header_spelling-onto, bulks_spelling-onto, request_spelling-onto}
use Rattle.resp_values.proofs.Each.{each_by_recursion, each_by_index}

-- the limits are numbers that the code can count with
pub words_some : 0 < MOST_WORDS
words_some = lit< tt

pub words_bound : MOST_WORDS < 2 ^ 60
words_bound = lit< tt

pub bytes_some : 0 < MOST_WORD_BYTES
bytes_some = lit< tt

pub bytes_bound : MOST_WORD_BYTES < 2 ^ 60
bytes_bound = lit< tt

pub words_mean : (bytes : List ℕ) → RequestMeans MOST_WORDS MOST_WORD_BYTES bytes (reading_words bytes)
words_mean bytes = request_means MOST_WORDS MOST_WORD_BYTES bytes words_some words_bound bytes_some bytes_bound

-- ---- found

pub found_words_are : (bytes : List ℕ) (words : List (List ℕ)) (rest : List ℕ)
    → reading_words bytes ≡ Found words rest → WordsKeepLimits words × (bytes ≡ request_spelling words ++ rest)
found_words_are bytes words rest e =
    let m = subst (RequestMeans MOST_WORDS MOST_WORD_BYTES bytes) e (words_mean bytes) in
    (record { few = m.few; short = each_by_index (λ (word : List ℕ). length word ≤ MOST_WORD_BYTES) words m.short }, m.spelled ∙ sym (request_spelling-onto words rest))

-- words in front are found
pub words_are_found : (words : List (List ℕ)) (rest : List ℕ) → WordsKeepLimits words → reading_words (request_spelling words ++ rest) ≡ Found words rest
words_are_found words rest r =
    ap reading_words (request_spelling-onto words rest)
    ∙ request_again MOST_WORDS MOST_WORD_BYTES words rest (let b = words_bound in omega arith) (let b = bytes_bound in omega arith) r.few
    (each_by_recursion (λ (word : List ℕ). length word ≤ MOST_WORD_BYTES) words r.short)

some_behind : (xs ys : List ℕ) → xs ++ ys ≡ [] → 0 < length ys → ⊥
some_behind [] [] e some = omega arith
some_behind [] (y ∷ ys) e some = cc
some_behind (x ∷ xs) ys e some = cc

-- the front of one request wants the rest of it
pub front_wants : (front rest : List ℕ) (words : List (List ℕ)) → WordsKeepLimits words → 0 < length rest → front ++ rest ≡ request_spelling words → reading_words front ≡ Wants
front_wants front rest words limits wanted one = by_reading (reading_words front) refl
  where
    whole : reading_words (front ++ rest) ≡ Found words []
    whole = ap reading_words (one ∙ sym (append-nil (request_spelling words))) ∙ words_are_found words [] limits

    by_reading : (s : Seen (List (List ℕ))) → reading_words front ≡ s → reading_words front ≡ Wants
    by_reading Wants e = e
    by_reading (Bad fault) e =
        let bad : Bad fault ≡ Found words [] = sym (words_stay_bad front rest fault e) ∙ whole in
        absurd cc
    by_reading (Found other last) e =
        let found : Found other (last ++ rest) ≡ Found words [] = sym (words_stay_found front rest other last e) ∙ whole in
        let none : last ++ rest ≡ [] = cc in
        absurd (some_behind last rest none wanted)

-- ---- more bytes are wanted

short_has_lengths : (limit : ℕ) (words : List (List ℕ)) → limit < 2 ^ 64 → AreShort limit words → All (λ word. length word < 2 ^ 64) words
short_has_lengths limit words bound short k d lt =
    let each = each_by_index (λ (word : List ℕ). length word ≤ limit) words short k d lt in
    omega arith

-- one request is a beginning
one_is_beginning : (bytes : List ℕ) (words : List (List ℕ)) (more : List ℕ) → HasNumbers words → bytes ++ more ≡ request_onto words [] → IsBeginning bytes
one_is_beginning bytes words more numbers spelled = record {
  requests = words ∷ [];
  rest = more;
  numbers = All-cons HasNumbers words [] numbers (All-nil HasNumbers);
  spelled = spelled ∙ sym (request_spelling-onto words []);
}

-- what more bytes make a request of
pub record Ends (bytes : List ℕ) : Type 0 where
  pub words : List (List ℕ)
  pub more : List ℕ
  pub limits : WordsKeepLimits words
  pub wanted : 0 < length more
  pub spelled : bytes ++ more ≡ request_spelling words

pub wanting_ends : (bytes : List ℕ) → reading_words bytes ≡ Wants → Ends bytes
wanting_ends bytes e =
    let m = subst (RequestMeans MOST_WORDS MOST_WORD_BYTES bytes) e (words_mean bytes) in
    record {
      words = m.words;
      more = m.more;
      limits = record { few = m.few; short = each_by_index (λ (word : List ℕ). length word ≤ MOST_WORD_BYTES) m.words m.short };
      wanted = m.wanted;
      spelled = m.spelled ∙ sym (request_spelling-onto m.words []) ∙ append-nil (request_spelling m.words);
    }

pub limits_have_numbers : (words : List (List ℕ)) → WordsKeepLimits words → HasNumbers words
limits_have_numbers words limits =
    let words_limit = words_bound in
    let bytes_limit = bytes_bound in
    record {
      count = (let few = limits.few in omega arith);
      lengths = λ k d lt. let short = limits.short k d lt in omega arith;
    }

pub ending_is_beginning : (bytes : List ℕ) → Ends bytes → IsBeginning bytes
ending_is_beginning bytes ends =
    one_is_beginning bytes ends.words ends.more (limits_have_numbers ends.words ends.limits)
    (ends.spelled ∙ sym (append-nil (request_spelling ends.words)) ∙ request_spelling-onto ends.words [])

-- a request in front, with nothing behind it
pub found_is_beginning : (bytes : List ℕ) (words : List (List ℕ)) → WordsKeepLimits words → bytes ≡ request_spelling words ++ [] → IsBeginning bytes
found_is_beginning bytes words limits e =
    one_is_beginning bytes words [] (limits_have_numbers words limits) (append-nil bytes ∙ e ∙ request_spelling-onto words [])

-- ---- a limit that is passed

small_words : MOST_WORDS < 10 ^ 62
small_words = let b = words_bound in omega arith

small_bytes : MOST_WORD_BYTES < 10 ^ 62
small_bytes = let b = bytes_bound in omega arith

-- a request in front is decided
pub one_decided : (words : List (List ℕ)) (tail : List ℕ) → IsDecided (reading_words (request_spelling words ++ tail))
one_decided words tail =
    subst (λ (t : List ℕ). IsDecided (reading_words t)) (sym (request_spelling-onto words tail))
    (request_decided MOST_WORDS MOST_WORD_BYTES (length words) words 0 tail small_words small_bytes (omega arith) tt)

-- so are requests in front of what is
pub stream_decided : (requests : List (List (List ℕ))) (tail : List ℕ) → IsDecided (reading_words tail) → IsDecided (reading_words (stream_spelling requests ++ tail))
stream_decided [] tail decided = decided
stream_decided (words ∷ requests) tail decided =
    subst (λ (t : List ℕ). IsDecided (reading_words t)) (sym (append_assoc (request_spelling words) (stream_spelling requests) tail))
    (one_decided words (stream_spelling requests ++ tail))

pub count_passing_decided : (bytes : List ℕ) → CountPasses bytes → IsDecided (reading_words bytes)
count_passing_decided bytes p =
    subst (λ (t : List ℕ). IsDecided (reading_words t)) (sym p.spelled)
    (stream_decided p.requests (42 ∷ decimal p.count)
    (subst (λ (t : List ℕ). IsDecided (reading_words (42 ∷ t))) (append-nil (decimal p.count))
    (count_decided MOST_WORDS MOST_WORD_BYTES p.count [] small_words p.above)))

regroup : (a b c d : List ℕ) → ((a ++ b) ++ c) ++ d ≡ a ++ (b ++ (c ++ d))
regroup a b c d = simp append_assoc

pub length_passing_decided : (bytes : List ℕ) → LengthPasses bytes → IsDecided (reading_words bytes)
length_passing_decided bytes p =
    subst (λ (t : List ℕ). IsDecided (reading_words t))
    (sym (p.spelled ∙ regroup (stream_spelling p.requests) (header_spelling 42 p.count) (bulks_spelling p.words) tail))
    (stream_decided p.requests (header_spelling 42 p.count ++ (bulks_spelling p.words ++ tail)) one)
  where
    left : ℕ
    left = p.count - length p.words

    tail : List ℕ
    tail = 36 ∷ decimal p.number

    text : header_spelling 42 p.count ++ (bulks_spelling p.words ++ tail) ≡ header_onto 42 p.count (bulks_onto p.words (36 ∷ (decimal p.number ++ [])))
    text =
        ap (λ (t : List ℕ). header_spelling 42 p.count ++ t) (bulks_spelling-onto p.words tail)
        ∙ header_spelling-onto 42 p.count (bulks_onto p.words tail)
        ∙ ap (λ (t : List ℕ). header_onto 42 p.count (bulks_onto p.words (36 ∷ t))) (sym (append-nil (decimal p.number)))

    one : IsDecided (reading_words (header_spelling 42 p.count ++ (bulks_spelling p.words ++ tail)))
    one =
        let wanted = p.wanted in
        subst (λ (t : List ℕ). IsDecided (reading_words t)) (sym text)
        (request_decided MOST_WORDS MOST_WORD_BYTES p.count p.words left (36 ∷ (decimal p.number ++ [])) small_words small_bytes (omega arith)
        (length_decided MOST_WORD_BYTES left p.number [] small_bytes p.above (omega arith)))

-- ---- a length that passes the limit

AreShort-wider : (limit wider : ℕ) (words : List (List ℕ)) → limit ≤ wider → AreShort limit words → AreShort wider words
AreShort-wider limit wider [] le short = tt
AreShort-wider limit wider (word ∷ words) le short = (omega arith, AreShort-wider limit wider words le short.1)

pub AreShort-append : (limit : ℕ) (xs ys : List (List ℕ)) → AreShort limit xs → AreShort limit ys → AreShort limit (xs ++ ys)
AreShort-append limit [] ys p q = q
AreShort-append limit (x ∷ xs) ys p q = (p.0, AreShort-append limit xs ys p.1 q)

pub bulks_onto-both : (xs ys : List (List ℕ)) (rest : List ℕ) → bulks_onto (xs ++ ys) rest ≡ bulks_onto xs (bulks_onto ys rest)
bulks_onto-both [] ys rest = refl
bulks_onto-both (x ∷ xs) ys rest = ap (bulk_onto x) (bulks_onto-both xs ys rest)

-- the length can go on to a word that is as long as it says
pub length_is_beginning : (count : ℕ) (words : List (List ℕ)) (number : ℕ) → count ≤ MOST_WORDS → length words < count
    → AreShort MOST_WORD_BYTES words → number ≤ 10 * MOST_WORD_BYTES + 9 → IsBeginning (header_onto 42 count (bulks_onto words (36 ∷ decimal number)))
length_is_beginning count words number few wanted short near =
    let wide : ℕ = 10 * MOST_WORD_BYTES + 9 in
    let bound : MOST_WORD_BYTES < 2 ^ 60 = bytes_bound in
    let most : MOST_WORDS < 2 ^ 60 = words_bound in
    let left : ℕ = count - length words - 1 in
    let word : List ℕ = replicate number 0 in
    let len : length word ≡ number = length-replicate {A = ℕ} number 0 in
    let others : List (List ℕ) = word ∷ empty_words left in
    let all : List (List ℕ) = words ++ others in
    let more : List ℕ = 13 ∷ 10 ∷ (word ++ (13 ∷ 10 ∷ bulks_onto (empty_words left) [])) in
    let total : length all ≡ count = omega (arith, length-append words others, empty_count left) in
    let all_short : AreShort wide all = AreShort-append wide words others (AreShort-wider MOST_WORD_BYTES wide words (omega arith) short) (omega arith, empty_short wide left) in
    let spelled : header_onto 42 count (bulks_onto words (36 ∷ decimal number)) ++ more ≡ request_onto all [] =
    header_onto-append 42 count (bulks_onto words (36 ∷ decimal number)) more
    ∙ ap (header_onto 42 count) (bulks_onto-append words (36 ∷ decimal number) more)
    ∙ ap (λ (k : ℕ). header_onto 42 count (bulks_onto words (header_onto 36 k (word ++ (13 ∷ 10 ∷ bulks_onto (empty_words left) []))))) (sym len)
    ∙ ap (header_onto 42 count) (sym (bulks_onto-both words others []))
    ∙ ap (λ (k : ℕ). header_onto 42 k (bulks_onto all [])) (sym total) in
    one_is_beginning (header_onto 42 count (bulks_onto words (36 ∷ decimal number))) all more
    (record { count = omega arith; lengths = short_has_lengths wide all (omega arith) all_short }) spelled

pub length_passes : (count : ℕ) (words : List (List ℕ)) (number : ℕ) → length words < count → MOST_WORD_BYTES < number
    → LengthPasses (header_onto 42 count (bulks_onto words (36 ∷ decimal number)))
length_passes count words number wanted above = record {
  requests = [];
  count = count;
  words = words;
  number = number;
  wanted = wanted;
  above = above;
  spelled = sym (append_assoc (header_spelling 42 count) (bulks_spelling words) (36 ∷ decimal number)
      ∙ ap (λ (t : List ℕ). header_spelling 42 count ++ t) (bulks_spelling-onto words (36 ∷ decimal number))
      ∙ header_spelling-onto 42 count (bulks_onto words (36 ∷ decimal number)));
}

-- the count can go on to as many words
pub count_is_beginning : (count : ℕ) → count ≤ 10 * MOST_WORDS + 9 → IsBeginning (42 ∷ decimal count)
count_is_beginning count near =
    let most : MOST_WORDS < 2 ^ 60 = words_bound in
    let words : List (List ℕ) = empty_words count in
    let total : length words ≡ count = empty_count count in
    let more : List ℕ = 13 ∷ 10 ∷ bulks_onto words [] in
    one_is_beginning (42 ∷ decimal count) words more
    (record { count = omega arith; lengths = short_has_lengths 0 words (omega arith) (empty_short 0 count) })
    (ap (λ (k : ℕ). header_onto 42 k (bulks_onto words [])) (sym total))

pub count_passes : (count : ℕ) → MOST_WORDS < count → CountPasses (42 ∷ decimal count)
count_passes count above = record { requests = []; count = count; above = above; spelled = refl }

-- ---- a byte after which no request comes

pub bad_words_no_beginning : (bytes : List ℕ) → reading_words bytes ≡ Bad Protocol → ¬ IsBeginning bytes
bad_words_no_beginning bytes e b = behind b.requests b.numbers b.spelled
  where
    empty : (bytes rest : List ℕ) → reading_words bytes ≡ Bad Protocol → bytes ++ rest ≡ [] → ⊥
    empty [] rest e none = cc
    empty (x ∷ xs) rest e none = cc

    behind : (requests : List (List (List ℕ))) → All HasNumbers requests → bytes ++ b.rest ≡ stream_spelling requests → ⊥
    behind [] numbers spelled = empty bytes b.rest e spelled
    behind (words ∷ requests) numbers spelled =
        let wide : ℕ = 2 ^ 64 - 1 in
        let bound : MOST_WORD_BYTES < 2 ^ 60 = bytes_bound in
        let few : MOST_WORDS < 2 ^ 60 = words_bound in
        let first = numbers 0 words (omega arith) in
        let count = first.count in
        let each = first.lengths in
        let short : AreShort wide words = each_by_recursion (λ (word : List ℕ). length word ≤ wide) words (λ k d lt. let l = each k d lt in omega arith) in
        let wider = request_goes ⊥ MOST_WORDS wide MOST_WORD_BYTES wide bytes b.rest (omega arith) (λ k. absurd k) (omega arith) (λ k. absurd k) in
        let goes = subst (λ (s : Seen (List (List ℕ))). Goes ⊥ b.rest s (request_at wide wide (bytes ++ b.rest))) e wider in
        let bad : request_at wide wide (bytes ++ b.rest) ≡ Bad Protocol = goes (λ p. cc) in
        let found : request_at wide wide (bytes ++ b.rest) ≡ Found words (stream_spelling requests) =
        ap (request_at wide wide) (spelled ∙ request_spelling-onto words (stream_spelling requests))
        ∙ request_again wide wide words (stream_spelling requests) (omega arith) (omega arith) (omega arith) short in
        cc
