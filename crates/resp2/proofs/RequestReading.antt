-- What a request that is read says of the bytes, and how those that wait go on.
use Rattle.std.proofs.Common.{◌≡◌, ℕ, zero, suc, ◌+◌, ◌-◌, ◌*◌, ◌^◌, ◌<◌, ◌≤◌, ◌⊎◌, inl, inr, ltb, eqb, List, [], ◌∷◌, ◌++◌, length, take, drop, refl, sym, ap, subst, ◌∙◌, append_assoc, arith}
use Rattle.std.specs.Prelude.{decimal, replicate}
use Rattle.std.specs.List.{AllByRecursion}
use Rattle.std.proofs.lemmas.Bool.{ltb-true, ltb-false, eqb-true}
use Rattle.std.proofs.lemmas.List.{length-append, length-replicate, length-take, take-append-drop}
use Rattle.resp_header.specs.declared.fault.Fault.TheVariants.{Protocol, TooLong}
use Rattle.resp_header.specs.Reading.{Seen, Wants, Bad, Found, and_then, MatchSeen, after_cr, header_at, header_onto}
use Rattle.resp2.specs.Reading.{line_end_at, body_at, word_at, with_word, words_at, request_at, bulk_onto, bulks_onto, request_onto}
use Rattle.resp2.proofs.HeaderReading.{by_test, HeaderMeans, header_means}

-- ---- what follows a spelling

pub header_onto-append : (mark n : ℕ) (rest more : List ℕ) → header_onto mark n rest ++ more ≡ header_onto mark n (rest ++ more)
header_onto-append mark n rest more = ap (λ (t : List ℕ). mark ∷ t) (append_assoc (decimal n) (13 ∷ 10 ∷ rest) more)

pub bulk_onto-append : (word rest more : List ℕ) → bulk_onto word rest ++ more ≡ bulk_onto word (rest ++ more)
bulk_onto-append word rest more =
    header_onto-append 36 (length word) (word ++ (13 ∷ 10 ∷ rest)) more ∙ ap (header_onto 36 (length word)) (append_assoc word (13 ∷ 10 ∷ rest) more)

pub bulks_onto-append : (words : List (List ℕ)) (rest more : List ℕ) → bulks_onto words rest ++ more ≡ bulks_onto words (rest ++ more)
bulks_onto-append [] rest more = refl
bulks_onto-append (word ∷ words) rest more = bulk_onto-append word (bulks_onto words rest) more ∙ ap (bulk_onto word) (bulks_onto-append words rest more)

pub request_onto-append : (words : List (List ℕ)) (rest more : List ℕ) → request_onto words rest ++ more ≡ request_onto words (rest ++ more)
request_onto-append words rest more =
    header_onto-append 42 (length words) (bulks_onto words rest) more ∙ ap (header_onto 42 (length words)) (bulks_onto-append words rest more)

-- ---- a word

-- more bytes end this word
pub record BodyEnds (n : ℕ) (bytes : List ℕ) : Type 0 where
  pub word : List ℕ
  pub more : List ℕ
  pub len : length word ≡ n
  pub wanted : 0 < length more
  pub spelled : bytes ++ more ≡ word ++ (13 ∷ 10 ∷ [])

pub record BodyIs (n : ℕ) (bytes word rest : List ℕ) : Type 0 where
  pub len : length word ≡ n
  pub spelled : bytes ≡ word ++ (13 ∷ 10 ∷ rest)

abbrev pub BodyMeans : ℕ → List ℕ → Seen (List ℕ) → Type 0
BodyMeans n bytes seen = MatchSeen seen (BodyEnds n bytes) (λ fault. fault ≡ TooLong → ⊥) (BodyIs n bytes)

line_end_means : (n : ℕ) (word bytes : List ℕ) → length word ≡ n → BodyMeans n (word ++ bytes) (line_end_at word bytes)
line_end_means n word [] len = record { word = word; more = 13 ∷ 10 ∷ []; len = len; wanted = omega arith; spelled = append_assoc word [] (13 ∷ 10 ∷ []) }
line_end_means n word (b ∷ bs) len =
    by_test (BodyMeans n (word ++ (b ∷ bs))) (eqb b 13) (after_cr word bs) (Bad Protocol)
    (λ cr. subst (λ (c : ℕ). BodyMeans n (word ++ (c ∷ bs)) (after_cr word bs)) (sym (eqb-true b 13 cr)) (behind bs))
    (λ _ p. absurd cc)
  where
    behind : (bs : List ℕ) → BodyMeans n (word ++ (13 ∷ bs)) (after_cr word bs)
    behind [] = record { word = word; more = 10 ∷ []; len = len; wanted = omega arith; spelled = append_assoc word (13 ∷ []) (10 ∷ []) }
    behind (c ∷ cs) =
        by_test (BodyMeans n (word ++ (13 ∷ c ∷ cs))) (eqb c 10) (Found word cs) (Bad Protocol)
        (λ lf. record { len = len; spelled = ap (λ (x : ℕ). word ++ (13 ∷ x ∷ cs)) (eqb-true c 10 lf) })
        (λ _ p. absurd cc)

pub body_means : (n : ℕ) (bytes : List ℕ) → BodyMeans n bytes (body_at n bytes)
body_means n bytes =
    by_test (BodyMeans n bytes) (ltb (length bytes) n) Wants (line_end_at (take n bytes) (drop n bytes))
    (λ short.
    let lt : length bytes < n = ltb-true _ _ short in
    let rest : List ℕ = replicate (n - length bytes) 0 in
    record {
      word = bytes ++ rest;
      more = rest ++ (13 ∷ 10 ∷ []);
      len = omega (arith, length-append bytes rest, length-replicate {A = ℕ} (n - length bytes) 0);
      wanted = omega (arith, length-append rest (13 ∷ 10 ∷ []));
      spelled = sym (append_assoc bytes rest (13 ∷ 10 ∷ []));
    })
    (λ whole.
    let le : n ≤ length bytes = ltb-false _ _ whole in
    subst (λ (t : List ℕ). BodyMeans n t (line_end_at (take n bytes) (drop n bytes))) (take-append-drop n bytes)
    (line_end_means n (take n bytes) (drop n bytes) (omega (arith, length-take n bytes))))

-- more bytes end this word
record WordEnds (limit : ℕ) (bytes : List ℕ) : Type 0 where
  word : List ℕ
  more : List ℕ
  short : length word ≤ limit
  wanted : 0 < length more
  spelled : bytes ++ more ≡ bulk_onto word []

-- the length in front passes its limit
record WordPasses (limit : ℕ) (bytes : List ℕ) : Type 0 where
  number : ℕ
  rest : List ℕ
  above : limit < number
  near : number ≤ 10 * limit + 9
  spelled : bytes ≡ 36 ∷ (decimal number ++ rest)

pub record WordIs (limit : ℕ) (bytes word rest : List ℕ) : Type 0 where
  pub short : length word ≤ limit
  pub spelled : bytes ≡ bulk_onto word rest

abbrev WordMeans : ℕ → List ℕ → Seen (List ℕ) → Type 0
WordMeans limit bytes seen = MatchSeen seen (WordEnds limit bytes) (λ fault. fault ≡ TooLong → WordPasses limit bytes) (WordIs limit bytes)

behind_header : (limit n : ℕ) (rest : List ℕ) (s : Seen (List ℕ)) → n ≤ limit → BodyMeans n rest s → WordMeans limit (header_onto 36 n rest) s
behind_header limit n rest Wants high m =
    record {
      word = m.word;
      more = m.more;
      short = omega (arith, m.len);
      wanted = m.wanted;
      spelled = header_onto-append 36 n rest m.more ∙ ap (header_onto 36 n) m.spelled
          ∙ ap (λ (k : ℕ). header_onto 36 k (m.word ++ (13 ∷ 10 ∷ []))) (sym m.len);
    }
behind_header limit n rest (Bad fault) high m = λ p. absurd (m p)
behind_header limit n rest (Found word last) high m =
    record { short = omega (arith, m.len); spelled = ap (header_onto 36 n) m.spelled ∙ ap (λ (k : ℕ). header_onto 36 k (word ++ (13 ∷ 10 ∷ last))) (sym m.len) }

word_means : (limit : ℕ) (bytes : List ℕ) → 0 < limit → limit < 2 ^ 60 → WordMeans limit bytes (word_at limit bytes)
word_means limit bytes some bound = behind (header_at 36 TooLong 0 limit bytes) (header_means 36 TooLong 0 limit bytes some (omega arith) (omega arith))
  where
    behind : (s : Seen ℕ) → HeaderMeans 36 TooLong 0 limit bytes s → WordMeans limit bytes (and_then s body_at)
    behind Wants m =
        let number = m.0 in
        let word : List ℕ = replicate number 0 in
        let len : length word ≡ number = length-replicate {A = ℕ} number 0 in
        record {
          word = word;
          more = m.1 ++ (word ++ (13 ∷ 10 ∷ []));
          short = omega (arith, len, m.3);
          wanted = omega (arith, length-append m.1 (word ++ (13 ∷ 10 ∷ [])), m.4);
          spelled = sym (append_assoc bytes m.1 (word ++ (13 ∷ 10 ∷ [])))
              ∙ ap (λ (t : List ℕ). t ++ (word ++ (13 ∷ 10 ∷ []))) m.5
              ∙ header_onto-append 36 number [] (word ++ (13 ∷ 10 ∷ []))
              ∙ ap (λ (k : ℕ). header_onto 36 k (word ++ (13 ∷ 10 ∷ []))) (sym len);
        }
    behind (Bad fault) m = λ p. record { number = (m p).1; rest = (m p).2; above = (m p).3; near = (m p).4; spelled = (m p).5 }
    behind (Found n rest) m =
        subst (λ (t : List ℕ). WordMeans limit t (body_at n rest)) (sym m.2) (behind_header limit n rest (body_at n rest) m.1 (body_means n rest))

-- ---- words, one after another

abbrev pub AreShort : ℕ → List (List ℕ) → Type 0
AreShort limit words = AllByRecursion (λ word. length word ≤ limit) words

-- more bytes end these words
record WordsEnd (limit k : ℕ) (bytes : List ℕ) : Type 0 where
  words : List (List ℕ)
  more : List ℕ
  count : length words ≡ k
  short : AreShort limit words
  wanted : 0 < length more
  spelled : bytes ++ more ≡ bulks_onto words []

-- behind these words the length of one passes its limit
record WordsPass (limit k : ℕ) (bytes : List ℕ) : Type 0 where
  words : List (List ℕ)
  number : ℕ
  rest : List ℕ
  wanted : length words < k
  short : AreShort limit words
  above : limit < number
  near : number ≤ 10 * limit + 9
  spelled : bytes ≡ bulks_onto words (36 ∷ (decimal number ++ rest))

pub record WordsAre (limit k : ℕ) (bytes : List ℕ) (words : List (List ℕ)) (rest : List ℕ) : Type 0 where
  pub count : length words ≡ k
  pub short : AreShort limit words
  pub spelled : bytes ≡ bulks_onto words rest

abbrev WordsMean : ℕ → ℕ → List ℕ → Seen (List (List ℕ)) → Type 0
WordsMean limit k bytes seen = MatchSeen seen (WordsEnd limit k bytes) (λ fault. fault ≡ TooLong → WordsPass limit k bytes) (WordsAre limit k bytes)

-- k words with no bytes
pub empty_words : ℕ → List (List ℕ)
empty_words zero = []
empty_words (suc k) = [] ∷ empty_words k

pub empty_count : (k : ℕ) → length (empty_words k) ≡ k
unfolding empty_words
empty_count zero = refl
empty_count (suc k) = ap suc (empty_count k)

pub empty_short : (limit k : ℕ) → AreShort limit (empty_words k)
unfolding empty_words
empty_short limit zero = tt
empty_short limit (suc k) = (omega arith, empty_short limit k)

word_then : (limit k : ℕ) (bytes word rest : List ℕ) (s : Seen (List (List ℕ))) → WordIs limit bytes word rest → WordsMean limit k rest s → WordsMean limit (suc k) bytes (with_word word s)
word_then limit k bytes word rest Wants w m = record {
  words = word ∷ m.words;
  more = m.more;
  count = ap suc m.count;
  short = (w.short, m.short);
  wanted = m.wanted;
  spelled = ap (λ (t : List ℕ). t ++ m.more) w.spelled ∙ bulk_onto-append word rest m.more ∙ ap (bulk_onto word) m.spelled;
}
word_then limit k bytes word rest (Bad fault) w m = λ p. record {
  words = word ∷ (m p).words;
  number = (m p).number;
  rest = (m p).rest;
  wanted = (let lt : length (m p).words < k = (m p).wanted in omega arith);
  short = (w.short, (m p).short);
  above = (m p).above;
  near = (m p).near;
  spelled = w.spelled ∙ ap (bulk_onto word) (m p).spelled;
}
word_then limit k bytes word rest (Found words last) w m = record { count = ap suc m.count; short = (w.short, m.short); spelled = w.spelled ∙ ap (bulk_onto word) m.spelled }

behind_word : (limit k : ℕ) (bytes : List ℕ) (s : Seen (List ℕ)) → WordMeans limit bytes s
    → ((rest : List ℕ) → WordsMean limit k rest (words_at limit k rest))
    → WordsMean limit (suc k) bytes (and_then s (λ word rest. with_word word (words_at limit k rest)))
behind_word limit k bytes Wants m next = record {
  words = m.word ∷ empty_words k;
  more = m.more ++ bulks_onto (empty_words k) [];
  count = ap suc (empty_count k);
  short = (m.short, empty_short limit k);
  wanted = (let some_more : 0 < length m.more = m.wanted in omega (arith, length-append m.more (bulks_onto (empty_words k) [])));
  spelled = sym (append_assoc bytes m.more (bulks_onto (empty_words k) []))
      ∙ ap (λ (t : List ℕ). t ++ bulks_onto (empty_words k) []) m.spelled
      ∙ bulk_onto-append m.word [] (bulks_onto (empty_words k) []);
}
behind_word limit k bytes (Bad fault) m next = λ p. record {
  words = [];
  number = (m p).number;
  rest = (m p).rest;
  wanted = omega arith;
  short = tt;
  above = (m p).above;
  near = (m p).near;
  spelled = (m p).spelled;
}
behind_word limit k bytes (Found word rest) m next = word_then limit k bytes word rest (words_at limit k rest) m (next rest)

words_mean : (limit k : ℕ) (bytes : List ℕ) → 0 < limit → limit < 2 ^ 60 → WordsMean limit k bytes (words_at limit k bytes)
words_mean limit zero bytes some bound = record { count = refl; short = tt; spelled = refl }
words_mean limit (suc k) bytes some bound =
    behind_word limit k bytes (word_at limit bytes) (word_means limit bytes some bound) (λ rest. words_mean limit k rest some bound)

-- ---- a request

-- more bytes end this request
pub record RequestEnds (most limit : ℕ) (bytes : List ℕ) : Type 0 where
  pub words : List (List ℕ)
  pub more : List ℕ
  pub few : length words ≤ most
  pub short : AreShort limit words
  pub wanted : 0 < length more
  pub spelled : bytes ++ more ≡ request_onto words []

-- the count of its words passes its limit
pub record CountIsOver (most : ℕ) (bytes : List ℕ) : Type 0 where
  pub count : ℕ
  pub rest : List ℕ
  pub above : most < count
  pub near : count ≤ 10 * most + 9
  pub spelled : bytes ≡ 42 ∷ (decimal count ++ rest)

-- behind these words of a request the length of one passes its limit
pub record LengthIsOver (most limit : ℕ) (bytes : List ℕ) : Type 0 where
  pub count : ℕ
  pub words : List (List ℕ)
  pub number : ℕ
  pub rest : List ℕ
  pub few : count ≤ most
  pub wanted : length words < count
  pub short : AreShort limit words
  pub above : limit < number
  pub near : number ≤ 10 * limit + 9
  pub spelled : bytes ≡ header_onto 42 count (bulks_onto words (36 ∷ (decimal number ++ rest)))

pub record RequestIs (most limit : ℕ) (bytes : List ℕ) (words : List (List ℕ)) (rest : List ℕ) : Type 0 where
  pub few : length words ≤ most
  pub short : AreShort limit words
  pub spelled : bytes ≡ request_onto words rest

abbrev pub RequestMeans : ℕ → ℕ → List ℕ → Seen (List (List ℕ)) → Type 0
RequestMeans most limit bytes seen =
    MatchSeen seen (RequestEnds most limit bytes) (λ fault. fault ≡ TooLong → CountIsOver most bytes ⊎ LengthIsOver most limit bytes) (RequestIs most limit bytes)

behind_count : (most limit n : ℕ) (rest : List ℕ) (s : Seen (List (List ℕ))) → n ≤ most → WordsMean limit n rest s → RequestMeans most limit (header_onto 42 n rest) s
behind_count most limit n rest Wants few m = record {
  words = m.words;
  more = m.more;
  few = omega (arith, m.count);
  short = m.short;
  wanted = m.wanted;
  spelled = header_onto-append 42 n rest m.more ∙ ap (header_onto 42 n) m.spelled ∙ ap (λ (k : ℕ). header_onto 42 k (bulks_onto m.words [])) (sym m.count);
}
behind_count most limit n rest (Bad fault) few m = λ p. inr (record {
  count = n;
  words = (m p).words;
  number = (m p).number;
  rest = (m p).rest;
  few = few;
  wanted = (m p).wanted;
  short = (m p).short;
  above = (m p).above;
  near = (m p).near;
  spelled = ap (header_onto 42 n) (m p).spelled;
})
behind_count most limit n rest (Found words last) few m = record {
  few = omega (arith, m.count);
  short = m.short;
  spelled = ap (header_onto 42 n) m.spelled ∙ ap (λ (k : ℕ). header_onto 42 k (bulks_onto words last)) (sym m.count);
}

pub request_means : (most limit : ℕ) (bytes : List ℕ) → 0 < most → most < 2 ^ 60 → 0 < limit → limit < 2 ^ 60 → RequestMeans most limit bytes (request_at most limit bytes)
request_means most limit bytes words_some words_bound some bound = behind (header_at 42 TooLong 0 most bytes) (header_means 42 TooLong 0 most bytes words_some (omega arith) (omega arith))
  where
    behind : (s : Seen ℕ) → HeaderMeans 42 TooLong 0 most bytes s → RequestMeans most limit bytes (and_then s (words_at limit))
    behind Wants m =
        let number = m.0 in
        let words = empty_words number in
        let count : length words ≡ number = empty_count number in
        record {
          words = words;
          more = m.1 ++ bulks_onto words [];
          few = omega (arith, count, m.3);
          short = empty_short limit number;
          wanted = omega (arith, length-append m.1 (bulks_onto words []), m.4);
          spelled = sym (append_assoc bytes m.1 (bulks_onto words []))
              ∙ ap (λ (t : List ℕ). t ++ bulks_onto words []) m.5
              ∙ header_onto-append 42 number [] (bulks_onto words [])
              ∙ ap (λ (k : ℕ). header_onto 42 k (bulks_onto words [])) (sym count);
        }
    behind (Bad fault) m = λ p. inl (record { count = (m p).1; rest = (m p).2; above = (m p).3; near = (m p).4; spelled = (m p).5 })
    behind (Found n rest) m =
        subst (λ (t : List ℕ). RequestMeans most limit t (words_at limit n rest)) (sym m.2)
        (behind_count most limit n rest (words_at limit n rest) m.1 (words_mean limit n rest some bound))

-- ---- what was found

pub word_takes : (limit : ℕ) (bytes word rest : List ℕ) → 0 < limit → limit < 2 ^ 60 → word_at limit bytes ≡ Found word rest → WordIs limit bytes word rest
word_takes limit bytes word rest some bound e = subst (WordMeans limit bytes) e (word_means limit bytes some bound)
