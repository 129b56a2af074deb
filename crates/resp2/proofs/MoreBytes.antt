-- What more bytes, or a wider limit of words, leave of a reading.
use Rattle.std.proofs.Common.{◌≡◌, ℕ, zero, suc, ◌+◌, ◌-◌, ◌*◌, ◌<◌, ◌≤◌, Bool, true, false, cond, ltb, eqb, ◌||◌, List, [], ◌∷◌, ◌++◌, length, take, drop, refl, sym, ap, subst, arith}
use Rattle.std.proofs.lemmas.Bool.{ltb-true, ltb-false, lt-ltb, le-ltb}
use Rattle.std.proofs.lemmas.List.{length-append, take-append-le, drop-append-le}
use Rattle.resp_header.specs.declared.fault.Fault.{Fault}
use Rattle.resp_header.specs.declared.fault.Fault.TheVariants.{Protocol, TooLong}
use Rattle.resp_header.specs.Reading.{Seen, Wants, Bad, Found, and_then, MatchSeen, after_cr, digits_at, number_at, header_at}
use Rattle.resp2.specs.Reading.{line_end_at, body_at, word_at, with_word, words_at, request_at, reading_words}
use Rattle.resp_values.specs.declared.words.TheConstants.{MOST_WORDS, MOST_WORD_BYTES}
use Rattle.resp2.proofs.HeaderReading.{by_test}

-- what was found or was bad is so again; that a word is too long needs `same`, the same limit
abbrev pub Goes : {X : Type 0} → Type 0 → List ℕ → Seen X → Seen X → Type 0
Goes same more seen again =
    MatchSeen seen (Unit {0}) (λ fault. (fault ≡ TooLong → same) → again ≡ Bad fault) (λ x rest. again ≡ Found x (rest ++ more))

by_one_test : {A B : Type 0} (P : A → B → Type 0) (t : Bool) (x y : A) (v w : B) → (t ≡ true → P x v) → (t ≡ false → P y w) → P (cond t x y) (cond t v w)
by_one_test P true x y v w on_true on_false = on_true refl
by_one_test P false x y v w on_true on_false = on_false refl

after_cr_goes : {X : Type 0} (same : Type 0) (x : X) (bs more : List ℕ) → Goes same more (after_cr x bs) (after_cr x (bs ++ more))
after_cr_goes same x [] more = tt
after_cr_goes {X} same x (b ∷ bs) more =
    by_one_test (Goes {X = X} same more) (eqb b 10) (Found x bs) (Bad Protocol) (Found x (bs ++ more)) (Bad Protocol) (λ _. refl) (λ _ _. refl)

line_end_goes : {X : Type 0} (same : Type 0) (x : X) (bs more : List ℕ) → Goes same more (line_end_at x bs) (line_end_at x (bs ++ more))
line_end_goes same x [] more = tt
line_end_goes {X} same x (b ∷ bs) more =
    by_one_test (Goes {X = X} same more) (eqb b 13) (after_cr x bs) (Bad Protocol) (after_cr x (bs ++ more)) (Bad Protocol) (λ _. after_cr_goes same x bs more) (λ _ _. refl)

-- a number's bound stays, or is the limit of words
abbrev pub Ties : Type 0 → Fault → ℕ → ℕ → Type 0
Ties same above most wider = (above ≡ TooLong → same) → most ≡ wider

bound_goes : (same : Type 0) (above : Fault) (most wider n : ℕ) (more : List ℕ) (s t : Seen ℕ) → most ≤ wider → Ties same above most wider
    → Goes same more s t → Goes same more (cond (ltb most n) (Bad above) s) (cond (ltb wider n) (Bad above) t)
bound_goes same above most wider n more s t le tie goes =
    by_test (λ (u : Seen ℕ). Goes same more u (cond (ltb wider n) (Bad above) t)) (ltb most n) (Bad above) s
    (λ over k. let e : most ≡ wider = tie k in let lt : most < n = ltb-true most n over in rw (lt-ltb wider n (omega arith)) refl)
    (λ within. let fits : n ≤ most = ltb-false most n within in rw (le-ltb wider n (omega arith)) goes)

digits_go : (same : Type 0) (above : Fault) (most wider n : ℕ) (bs more : List ℕ) → most ≤ wider → Ties same above most wider
    → Goes same more (digits_at above most n bs) (digits_at above wider n (bs ++ more))
digits_go same above most wider n [] more le tie = tt
digits_go same above most wider n (b ∷ bs) more le tie =
    by_one_test (Goes {X = ℕ} same more) (eqb b 13) (after_cr n bs) _ (after_cr n (bs ++ more)) _ (λ _. after_cr_goes same n bs more)
    (λ _. by_one_test (Goes {X = ℕ} same more) (eqb n 0 || (ltb b 48 || ltb 57 b)) (Bad Protocol) _ (Bad Protocol) _ (λ _ _. refl)
    (λ _. bound_goes same above most wider (10 * n + (b - 48)) more _ _ le tie (digits_go same above most wider (10 * n + (b - 48)) bs more le tie)))

pub number_goes : (same : Type 0) (above : Fault) (least most wider : ℕ) (bs more : List ℕ) → most ≤ wider → Ties same above most wider
    → Goes same more (number_at above least most bs) (number_at above least wider (bs ++ more))
number_goes same above least most wider [] more le tie = tt
number_goes same above least most wider (b ∷ bs) more le tie =
    by_one_test (Goes {X = ℕ} same more) (ltb b 48 || ltb 57 b) (Bad Protocol) _ (Bad Protocol) _ (λ _ _. refl)
    (λ _. by_one_test (Goes {X = ℕ} same more) (ltb (b - 48) least) (Bad Protocol) _ (Bad Protocol) _ (λ _ _. refl)
    (λ _. bound_goes same above most wider (b - 48) more _ _ le tie (digits_go same above most wider (b - 48) bs more le tie)))

header_goes : (same : Type 0) (mark : ℕ) (above : Fault) (least most wider : ℕ) (bytes more : List ℕ) → most ≤ wider → Ties same above most wider
    → Goes same more (header_at mark above least most bytes) (header_at mark above least wider (bytes ++ more))
header_goes same mark above least most wider [] more le tie = tt
header_goes same mark above least most wider (b ∷ bs) more le tie =
    by_one_test (Goes {X = ℕ} same more) (eqb b mark) (number_at above least most bs) (Bad Protocol) (number_at above least wider (bs ++ more)) (Bad Protocol)
    (λ _. number_goes same above least most wider bs more le tie) (λ _ _. refl)

pub body_goes : (same : Type 0) (n : ℕ) (bytes more : List ℕ) → Goes same more (body_at n bytes) (body_at n (bytes ++ more))
body_goes same n bytes more =
    by_test (λ (u : Seen (List ℕ)). Goes same more u (body_at n (bytes ++ more))) (ltb (length bytes) n) Wants (line_end_at (take n bytes) (drop n bytes))
    (λ _. tt)
    (λ whole.
    let le : n ≤ length bytes = ltb-false _ _ whole in
    let long : ltb (length (bytes ++ more)) n ≡ false = le-ltb _ _ (omega (arith, length-append bytes more)) in
    rw (long, take-append-le n bytes more le, drop-append-le n bytes more le) (line_end_goes same (take n bytes) (drop n bytes) more))

and_then_goes : {X Y : Type 0} (same : Type 0) (more : List ℕ) (s t : Seen X) (f g : X → List ℕ → Seen Y) → Goes same more s t
    → ((x : X) (rest : List ℕ) → Goes same more (f x rest) (g x (rest ++ more))) → Goes same more (and_then s f) (and_then t g)
and_then_goes same more Wants t f g goes each = tt
and_then_goes {X} same more (Bad fault) t f g goes each = λ k. ap (λ (u : Seen X). and_then u g) (goes k)
and_then_goes {X} same more (Found x rest) t f g goes each = subst (λ (u : Seen X). Goes same more (f x rest) (and_then u g)) (sym goes) (each x rest)

word_goes : (same : Type 0) (limit wider : ℕ) (bytes more : List ℕ) → limit ≤ wider → (same → limit ≡ wider) → Goes same more (word_at limit bytes) (word_at wider (bytes ++ more))
word_goes same limit wider bytes more le tie =
    and_then_goes same more _ _ body_at body_at (header_goes same 36 TooLong 0 limit wider bytes more le (λ k. tie (k refl))) (λ n rest. body_goes same n rest more)

words_go : (same : Type 0) (limit wider : ℕ) → limit ≤ wider → (same → limit ≡ wider) → (k : ℕ) (bytes more : List ℕ)
    → Goes same more (words_at limit k bytes) (words_at wider k (bytes ++ more))
words_go same limit wider le tie zero bytes more = refl
words_go same limit wider le tie (suc k) bytes more =
    and_then_goes same more _ _ (λ word rest. with_word word (words_at limit k rest)) (λ word rest. with_word word (words_at wider k rest)) (word_goes same limit wider bytes more le tie)
    (λ word rest. and_then_goes same more _ _ (λ words last. Found (word ∷ words) last) (λ words last. Found (word ∷ words) last)
    (words_go same limit wider le tie k rest more) (λ _ _. refl))

pub request_goes : (same : Type 0) (most more_words limit wider : ℕ) (bytes more : List ℕ) → most ≤ more_words → (same → most ≡ more_words)
    → limit ≤ wider → (same → limit ≡ wider) → Goes same more (request_at most limit bytes) (request_at more_words wider (bytes ++ more))
request_goes same most more_words limit wider bytes more few tie_words le tie =
    and_then_goes same more _ _ (words_at limit) (words_at wider)
    (header_goes same 42 TooLong 0 most more_words bytes more few (λ k. tie_words (k refl)))
    (λ k rest. words_go same limit wider le tie k rest more)

-- what a front decides, the bytes behind it leave
front_goes : (front rest : List ℕ) (s : Seen (List (List ℕ))) → reading_words front ≡ s → Goes (Unit {0}) rest s (reading_words (front ++ rest))
front_goes front rest s e =
    let goes = request_goes (Unit {0}) MOST_WORDS MOST_WORDS MOST_WORD_BYTES MOST_WORD_BYTES front rest (omega arith) (λ _. refl) (omega arith) (λ _. refl) in
    subst (λ (u : Seen (List (List ℕ))). Goes (Unit {0}) rest u (reading_words (front ++ rest))) e goes

pub words_stay_bad : (front rest : List ℕ) (fault : Fault) → reading_words front ≡ Bad fault → reading_words (front ++ rest) ≡ Bad fault
words_stay_bad front rest fault e = front_goes front rest (Bad fault) e (λ _. tt)

pub words_stay_found : (front rest : List ℕ) (words : List (List ℕ)) (last : List ℕ)
    → reading_words front ≡ Found words last → reading_words (front ++ rest) ≡ Found words (last ++ rest)
words_stay_found front rest words last e = front_goes front rest (Found words last) e
