-- What is spelled is read, and the bytes that spell a whole request decide.
use Rattle.std.proofs.Common.{◌≡◌, ℕ, zero, suc, ◌+◌, ◌^◌, ◌<◌, ◌≤◌, false, ltb, List, [], ◌∷◌, ◌++◌, length, refl, sym, ap, ◌∙◌, zero-add, arith}
use Rattle.std.specs.Prelude.{decimal}
use Rattle.std.proofs.lemmas.Bool.{le-ltb}
use Rattle.std.proofs.lemmas.List.{length-append, append-nil, take_at, drop_at}
use Rattle.resp_header.specs.declared.fault.Fault.TheVariants.{TooLong}
use Rattle.resp_header.specs.Reading.{Seen, Wants, Bad, Found, and_then, MatchSeen, header_at, header_onto}
use Rattle.resp2.specs.Reading.{body_at, word_at, with_word, words_at, request_at, bulk_onto, bulks_onto, request_onto}
use Rattle.resp2.proofs.HeaderRoundTrip.{header_again, header_decides, header_passes, IsBad}
use Rattle.resp2.proofs.RequestReading.{AreShort}

pub body_again : (word rest : List ℕ) → body_at (length word) (word ++ (13 ∷ 10 ∷ rest)) ≡ Found word rest
body_again word rest =
    let long : ltb (length (word ++ (13 ∷ 10 ∷ rest))) (length word) ≡ false = le-ltb _ _ (omega (arith, length-append word (13 ∷ 10 ∷ rest))) in
    rw (long, take_at word (13 ∷ 10 ∷ rest) (length word) refl, drop_at word (13 ∷ 10 ∷ rest) (length word) refl) refl

pub body_behind : (limit n : ℕ) (rest : List ℕ) → limit < 2 ^ 64 → n ≤ limit → word_at limit (header_onto 36 n rest) ≡ body_at n rest
body_behind limit n rest bound short =
    ap (λ (s : Seen ℕ). and_then s body_at) (header_again 36 TooLong 0 limit n rest (omega arith) (omega arith) (omega arith) short)

pub word_again : (limit : ℕ) (word rest : List ℕ) → limit < 2 ^ 64 → length word ≤ limit → word_at limit (bulk_onto word rest) ≡ Found word rest
word_again limit word rest bound short = body_behind limit (length word) (word ++ (13 ∷ 10 ∷ rest)) bound short ∙ body_again word rest

-- words that were read before the others
abbrev pub with_words : List (List ℕ) → Seen (List (List ℕ)) → Seen (List (List ℕ))
with_words front seen = and_then seen (λ words rest. Found (front ++ words) rest)

with_one_more : (word : List ℕ) (words : List (List ℕ)) (s : Seen (List (List ℕ))) → with_word word (with_words words s) ≡ with_words (word ∷ words) s
with_one_more word words Wants = refl
with_one_more word words (Bad fault) = refl
with_one_more word words (Found found rest) = refl

pub words_again : (limit : ℕ) (words : List (List ℕ)) (k : ℕ) (rest : List ℕ) → limit < 2 ^ 64 → AreShort limit words
    → words_at limit (length words + k) (bulks_onto words rest) ≡ with_words words (words_at limit k rest)
words_again limit [] k rest bound short = rw (zero-add k) (same (words_at limit k rest))
  where
    same : (s : Seen (List (List ℕ))) → s ≡ with_words [] s
    same Wants = refl
    same (Bad fault) = refl
    same (Found found last) = refl
words_again limit (word ∷ words) k rest bound short =
    let more : suc (length words) + k ≡ suc (length words + k) = omega arith in
    rw (more, word_again limit word (bulks_onto words rest) bound short.0)
    (ap (with_word word) (words_again limit words k rest bound short.1) ∙ with_one_more word words (words_at limit k rest))

-- a request, as far as its words are read
pub request_behind : (most limit : ℕ) (words : List (List ℕ)) (k : ℕ) (rest : List ℕ) → most < 2 ^ 64 → limit < 2 ^ 64
    → length words + k ≤ most → AreShort limit words
    → request_at most limit (header_onto 42 (length words + k) (bulks_onto words rest)) ≡ with_words words (words_at limit k rest)
request_behind most limit words k rest words_bound bound few short =
    ap (λ (s : Seen ℕ). and_then s (words_at limit)) (header_again 42 TooLong 0 most (length words + k) (bulks_onto words rest) (omega arith) (omega arith) (omega arith) few)
    ∙ words_again limit words k rest bound short

pub request_again : (most limit : ℕ) (words : List (List ℕ)) (rest : List ℕ) → most < 2 ^ 64 → limit < 2 ^ 64 → length words ≤ most
    → AreShort limit words → request_at most limit (request_onto words rest) ≡ Found words rest
request_again most limit words rest words_bound bound few short =
    let all : length words + 0 ≡ length words = omega arith in
    ap (λ (k : ℕ). request_at most limit (header_onto 42 k (bulks_onto words rest))) (sym all)
    ∙ request_behind most limit words 0 rest words_bound bound (omega arith) short
    ∙ ap (λ (ws : List (List ℕ)). Found ws rest) (append-nil words)

-- ---- decided

-- no more bytes are wanted
abbrev pub IsDecided : {X : Type 0} → Seen X → Type 0
IsDecided seen = MatchSeen seen ⊥ (λ _. Unit {0}) (λ _ _. Unit {0})

bad_decided : {X : Type 0} (s : Seen X) → IsBad s → IsDecided s
bad_decided Wants h = h
bad_decided (Bad fault) h = tt
bad_decided (Found x rest) h = tt

with_word_decided : (word : List ℕ) (s : Seen (List (List ℕ))) → IsDecided s → IsDecided (with_word word s)
with_word_decided word Wants h = h
with_word_decided word (Bad fault) h = tt
with_word_decided word (Found words rest) h = tt

-- a word's spelling is read as it, or bad
word_decides : (limit : ℕ) (word rest : List ℕ) → limit < 10 ^ 62 → MatchSeen (word_at limit (bulk_onto word rest)) ⊥ (λ _. Unit {0}) (λ found last. (found ≡ word) × (last ≡ rest))
word_decides limit word rest bound =
    behind (header_at 36 TooLong 0 limit (bulk_onto word rest)) (header_decides 36 TooLong 0 limit (length word) (word ++ (13 ∷ 10 ∷ rest)) (omega arith) bound)
  where
    behind : (s : Seen ℕ) → MatchSeen s ⊥ (λ _. Unit {0}) (λ m last. (m ≡ length word) × (last ≡ word ++ (13 ∷ 10 ∷ rest)))
        → MatchSeen (and_then s body_at) ⊥ (λ _. Unit {0}) (λ found last. (found ≡ word) × (last ≡ rest))
    behind Wants h = h
    behind (Bad fault) h = tt
    behind (Found m last) h = rw (h.0, h.1, body_again word rest) (refl, refl)

words_decided : (limit : ℕ) (words : List (List ℕ)) (k : ℕ) (rest : List ℕ) → limit < 10 ^ 62 → IsDecided (words_at limit k rest)
    → IsDecided (words_at limit (length words + k) (bulks_onto words rest))
words_decided limit [] k rest bound decided = rw (zero-add k) decided
words_decided limit (word ∷ words) k rest bound decided =
    let more : suc (length words) + k ≡ suc (length words + k) = omega arith in
    rw more
    (behind limit word words k rest (word_at limit (bulk_onto word (bulks_onto words rest))) (word_decides limit word (bulks_onto words rest) bound)
    (words_decided limit words k rest bound decided))
  where
    behind : (limit : ℕ) (word : List ℕ) (words : List (List ℕ)) (k : ℕ) (rest : List ℕ) (s : Seen (List ℕ))
        → MatchSeen s ⊥ (λ _. Unit {0}) (λ found last. (found ≡ word) × (last ≡ bulks_onto words rest))
        → IsDecided (words_at limit (length words + k) (bulks_onto words rest))
        → IsDecided (and_then s (λ v last. with_word v (words_at limit (length words + k) last)))
    behind limit word words k rest Wants h decided = h
    behind limit word words k rest (Bad fault) h decided = tt
    behind limit word words k rest (Found found last) h decided = rw h.1 (with_word_decided found (words_at limit (length words + k) (bulks_onto words rest)) decided)

pub request_decided : (most limit count : ℕ) (words : List (List ℕ)) (k : ℕ) (rest : List ℕ) → most < 10 ^ 62 → limit < 10 ^ 62
    → length words + k ≡ count → IsDecided (words_at limit k rest) → IsDecided (request_at most limit (header_onto 42 count (bulks_onto words rest)))
request_decided most limit count words k rest words_bound bound all decided =
    behind (header_at 42 TooLong 0 most (header_onto 42 count (bulks_onto words rest))) (header_decides 42 TooLong 0 most count (bulks_onto words rest) (omega arith) words_bound)
  where
    behind : (s : Seen ℕ) → MatchSeen s ⊥ (λ _. Unit {0}) (λ m last. (m ≡ count) × (last ≡ bulks_onto words rest)) → IsDecided (and_then s (words_at limit))
    behind Wants h = h
    behind (Bad fault) h = tt
    behind (Found m last) h = rw (h.0, h.1, ← all) (words_decided limit words k rest bound decided)

-- a length above the limit is bad
pub length_decided : (limit k number : ℕ) (rest : List ℕ) → limit < 10 ^ 62 → limit < number → 0 < k → IsDecided (words_at limit k (36 ∷ (decimal number ++ rest)))
length_decided limit zero number rest bound above some = absurd (omega arith)
length_decided limit (suc k) number rest bound above some =
    behind (header_at 36 TooLong 0 limit (36 ∷ (decimal number ++ rest))) (header_passes 36 TooLong 0 limit number rest (omega arith) bound above)
  where
    behind : (s : Seen ℕ) → IsBad s → IsDecided (and_then (and_then s body_at) (λ v last. with_word v (words_at limit k last)))
    behind Wants h = h
    behind (Bad fault) h = tt
    behind (Found m last) h = absurd h

-- a count above the limit is bad
pub count_decided : (most limit count : ℕ) (rest : List ℕ) → most < 10 ^ 62 → most < count → IsDecided (request_at most limit (42 ∷ (decimal count ++ rest)))
count_decided most limit count rest bound above =
    behind (header_at 42 TooLong 0 most (42 ∷ (decimal count ++ rest))) (header_passes 42 TooLong 0 most count rest (omega arith) bound above)
  where
    behind : (s : Seen ℕ) → IsBad s → IsDecided (and_then s (words_at limit))
    behind Wants h = h
    behind (Bad fault) h = tt
    behind (Found m last) h = absurd h
