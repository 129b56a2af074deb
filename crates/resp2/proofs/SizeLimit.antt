-- What the limit of a request's bytes changes of what its words decide.
use Rattle.std.proofs.Common.{◌≡◌, ℕ, zero, suc, ◌+◌, ◌-◌, ◌<◌, ◌≤◌, ◌⊎◌, inl, inr, Bool, cond, List, [], ◌∷◌, ◌++◌, length, take, drop, refl, sym, ap, subst, ◌∙◌, append_assoc, take-append-drop, arith}
use Rattle.std.proofs.lemmas.Bool.{cases_lt, lt-ltb, le-ltb}
use Rattle.std.proofs.lemmas.List.{length-append, length-take, take_all, take-append-le}
use Rattle.resp_header.specs.declared.fault.Fault.{Fault}
use Rattle.resp_header.specs.declared.fault.Fault.TheVariants.{TooLong}
use Rattle.resp_values.specs.declared.words.TheConstants.{MOST_REQUEST_BYTES}
use Rattle.resp_values.specs.Request.{request_spelling, KeepsLimits}
use Rattle.resp_header.specs.Reading.{Seen, Wants, Bad, Found}
use Rattle.resp2.specs.Reading.{reading, reading_words, within_size, one_past_size, too_many, sized}
use Rattle.resp2.proofs.MoreBytes.{words_stay_bad, words_stay_found}
use Rattle.resp2.proofs.RequestRoundTrip.{IsDecided}
use Rattle.resp2.proofs.WordsDecide.{found_words_are, words_are_found, front_wants}

-- ---- fronts

take_behind : (xs ys : List ℕ) (k : ℕ) → take (length xs + k) (xs ++ ys) ≡ xs ++ take k ys
take_behind [] ys k = let same : 0 + k ≡ k = omega arith in ap (λ (n : ℕ). take n ys) same
take_behind (x ∷ xs) ys k =
    let same : suc (length xs) + k ≡ suc (length xs + k) = omega arith in
    ap (λ (n : ℕ). take n (x ∷ (xs ++ ys))) same ∙ ap (λ (t : List ℕ). x ∷ t) (take_behind xs ys k)

drop_behind : (xs ys : List ℕ) (k : ℕ) → drop (length xs + k) (xs ++ ys) ≡ drop k ys
drop_behind [] ys k = let same : 0 + k ≡ k = omega arith in ap (λ (n : ℕ). drop n ys) same
drop_behind (x ∷ xs) ys k =
    let same : suc (length xs) + k ≡ suc (length xs + k) = omega arith in
    ap (λ (n : ℕ). drop n (x ∷ (xs ++ ys))) same ∙ drop_behind xs ys k

-- of bytes that are longer than n, n stand in front of others
parted : (n : ℕ) (bytes : List ℕ) → bytes ≡ take n bytes ++ drop n bytes
parted n bytes = sym (take-append-drop n bytes)

-- a shorter front is one of the longer
front_of : (n : ℕ) (bytes : List ℕ) → (more : List ℕ) × (take (suc n) bytes ≡ take n bytes ++ more)
front_of zero [] = ([], refl)
front_of zero (b ∷ bs) = (b ∷ [], refl)
front_of (suc n) [] = ([], refl)
front_of (suc n) (b ∷ bs) =
    let more = front_of n bs in
    (more.0, ap (λ (t : List ℕ). b ∷ t) more.1)

longer : (n : ℕ) (bytes : List ℕ) → n < length bytes → 0 < length (drop n bytes)
longer zero [] long = absurd (omega arith)
longer zero (b ∷ bs) long = omega arith
longer (suc n) [] long = absurd (omega arith)
longer (suc n) (b ∷ bs) long = longer n bs (omega arith)

-- ---- what some bytes decide, fewer don't decide otherwise

pub wants_before : (front rest : List ℕ) → reading_words (front ++ rest) ≡ Wants → reading_words front ≡ Wants
wants_before front rest wants = by_reading (reading_words front) refl
  where
    by_reading : (s : Seen (List (List ℕ))) → reading_words front ≡ s → reading_words front ≡ Wants
    by_reading Wants e = e
    by_reading (Bad fault) e = let bad : Bad fault ≡ Wants = sym (words_stay_bad front rest fault e) ∙ wants in absurd cc
    by_reading (Found words last) e = let found : Found words (last ++ rest) ≡ Wants = sym (words_stay_found front rest words last e) ∙ wants in absurd cc

not_bad_before : (front rest : List ℕ) (words : List (List ℕ)) (last : List ℕ) (fault : Fault)
    → reading_words (front ++ rest) ≡ Found words last → reading_words front ≡ Bad fault → ⊥
not_bad_before front rest words last fault found e =
    let bad : Bad fault ≡ Found words last = sym (words_stay_bad front rest fault e) ∙ found in cc

-- ---- the reading within the limit, by that without

-- by what the bytes within the limit decide
by_front : (bytes : List ℕ) (s : Seen (List (List ℕ))) → reading_words (within_size bytes) ≡ s → reading bytes ≡ sized bytes s
by_front bytes s e = ap (sized bytes) e

past : (bytes : List ℕ) → MOST_REQUEST_BYTES < length bytes → reading_words (within_size bytes) ≡ Wants → reading bytes ≡ too_many (reading_words (one_past_size bytes))
past bytes long e = by_front bytes Wants e ∙ ap (λ (t : Bool). cond t (too_many (reading_words (one_past_size bytes))) Wants) (lt-ltb MOST_REQUEST_BYTES (length bytes) long)

not_past : (bytes : List ℕ) → length bytes ≤ MOST_REQUEST_BYTES → reading_words (within_size bytes) ≡ Wants → reading bytes ≡ Wants
not_past bytes short e = by_front bytes Wants e ∙ ap (λ (t : Bool). cond t (too_many (reading_words (one_past_size bytes))) Wants) (le-ltb MOST_REQUEST_BYTES (length bytes) short)

all_within : (bytes : List ℕ) → length bytes ≤ MOST_REQUEST_BYTES → within_size bytes ≡ bytes
all_within bytes short = take_all MOST_REQUEST_BYTES bytes short

pub wants_within : (bytes : List ℕ) → reading_words bytes ≡ Wants → length bytes ≤ MOST_REQUEST_BYTES → reading bytes ≡ Wants
wants_within bytes wants short = not_past bytes short (ap reading_words (all_within bytes short) ∙ wants)

-- what is one too many makes a request too long that was sound so far
sound_is_too_long : (bytes : List ℕ) → MOST_REQUEST_BYTES < length bytes → reading_words (within_size bytes) ≡ Wants
    → ((fault : Fault) → reading_words (one_past_size bytes) ≡ Bad fault → ⊥) → reading bytes ≡ Bad TooLong
sound_is_too_long bytes long e sound = past bytes long e ∙ by_reading (reading_words (one_past_size bytes)) refl
  where
    by_reading : (s : Seen (List (List ℕ))) → reading_words (one_past_size bytes) ≡ s → too_many s ≡ Bad TooLong
    by_reading Wants is = refl
    by_reading (Bad fault) is = absurd (sound fault is)
    by_reading (Found words rest) is = refl

-- all of so many bytes want more
pub wants_past : (bytes : List ℕ) → MOST_REQUEST_BYTES < length bytes → reading_words (one_past_size bytes) ≡ Wants → reading bytes ≡ Bad TooLong
wants_past bytes long wants =
    let more = front_of MOST_REQUEST_BYTES bytes in
    let before = wants_before (within_size bytes) more.0 (ap reading_words (sym more.1) ∙ wants) in
    sound_is_too_long bytes long before (λ fault e. let bad : Bad fault ≡ Wants = sym e ∙ wants in cc)

pub all_want_past : (bytes : List ℕ) → MOST_REQUEST_BYTES < length bytes → reading_words bytes ≡ Wants → reading bytes ≡ Bad TooLong
all_want_past bytes long wants =
    wants_past bytes long (wants_before (one_past_size bytes) (drop (suc MOST_REQUEST_BYTES) bytes) (ap reading_words (sym (parted (suc MOST_REQUEST_BYTES) bytes)) ∙ wants))

-- a request that isn't too long is found
pub found_within : (words : List (List ℕ)) (rest : List ℕ) → KeepsLimits words → reading (request_spelling words ++ rest) ≡ Found words rest
found_within words rest limits =
    let bytes : List ℕ = request_spelling words ++ rest in
    let size : ℕ = length (request_spelling words) in
    let short : size ≤ MOST_REQUEST_BYTES = limits.all in
    let left : ℕ = MOST_REQUEST_BYTES - size in
    let limit_is : MOST_REQUEST_BYTES ≡ size + left = omega arith in
    let front : within_size bytes ≡ request_spelling words ++ take left rest =
    ap (λ (n : ℕ). take n bytes) limit_is ∙ take_behind (request_spelling words) rest left in
    let behind : drop MOST_REQUEST_BYTES bytes ≡ drop left rest =
    ap (λ (n : ℕ). drop n bytes) limit_is ∙ drop_behind (request_spelling words) rest left in
    by_front bytes (Found words (take left rest)) (ap reading_words front ∙ words_are_found words (take left rest) limits.each)
    ∙ ap (λ (t : List ℕ). Found words (take left rest ++ t)) behind
    ∙ ap (Found words) (take-append-drop left rest)

-- one that is too long isn't
pub found_past : (bytes : List ℕ) (words : List (List ℕ)) (rest : List ℕ) → reading_words bytes ≡ Found words rest
    → MOST_REQUEST_BYTES < length (request_spelling words) → reading bytes ≡ Bad TooLong
found_past bytes words rest found long =
    let is = found_words_are bytes words rest found in
    let whole : List ℕ = request_spelling words in
    let le : MOST_REQUEST_BYTES ≤ length whole = omega arith in
    let front : within_size bytes ≡ take MOST_REQUEST_BYTES whole =
    ap (take MOST_REQUEST_BYTES) is.1 ∙ take-append-le MOST_REQUEST_BYTES whole rest le in
    let wants : reading_words (take MOST_REQUEST_BYTES whole) ≡ Wants =
    front_wants (take MOST_REQUEST_BYTES whole) (drop MOST_REQUEST_BYTES whole) words is.0 (longer MOST_REQUEST_BYTES whole long) (take-append-drop MOST_REQUEST_BYTES whole) in
    let all : length bytes ≡ length whole + length rest = ap length is.1 ∙ length-append whole rest in
    sound_is_too_long bytes (omega arith) (ap reading_words front ∙ wants)
    (λ fault e. not_bad_before (one_past_size bytes) (drop (suc MOST_REQUEST_BYTES) bytes) words rest fault (ap reading_words (sym (parted (suc MOST_REQUEST_BYTES) bytes)) ∙ found) e)

-- a bad byte that isn't behind the first that is too many is bad still
pub bad_within : (bytes : List ℕ) (fault : Fault) → reading_words (one_past_size bytes) ≡ Bad fault → reading bytes ≡ Bad fault
bad_within bytes fault bad = by_reading (reading_words (within_size bytes)) refl (cases_lt MOST_REQUEST_BYTES (length bytes))
  where
    more : (more : List ℕ) × (one_past_size bytes ≡ within_size bytes ++ more)
    more = front_of MOST_REQUEST_BYTES bytes

    by_reading : (s : Seen (List (List ℕ))) → reading_words (within_size bytes) ≡ s → (MOST_REQUEST_BYTES < length bytes) ⊎ (length bytes ≤ MOST_REQUEST_BYTES) → reading bytes ≡ Bad fault
    by_reading Wants e (inl long) = past bytes long e ∙ ap too_many bad
    by_reading Wants e (inr short) =
        let all : one_past_size bytes ≡ within_size bytes = take_all (suc MOST_REQUEST_BYTES) bytes (omega arith) ∙ sym (all_within bytes short) in
        let both : Bad fault ≡ Wants = sym bad ∙ ap reading_words all ∙ e in
        absurd cc
    by_reading (Bad other) e size =
        by_front bytes (Bad other) e ∙ sym (words_stay_bad (within_size bytes) more.0 other e) ∙ ap reading_words (sym more.1) ∙ bad
    by_reading (Found words last) e size =
        let both : Found words (last ++ more.0) ≡ Bad fault = sym (words_stay_found (within_size bytes) more.0 words last e) ∙ ap reading_words (sym more.1) ∙ bad in
        absurd cc

-- ---- what the reading within the limit says

-- so far all is sound, and the limit is passed
pub record IsPast (fault : Fault) (bytes : List ℕ) : Type 0 where
  pub long : MOST_REQUEST_BYTES < length bytes
  pub sound : reading_words (within_size bytes) ≡ Wants
  pub decided : too_many (reading_words (one_past_size bytes)) ≡ Bad fault

abbrev pub SizedMeans : List ℕ → Seen (List (List ℕ)) → Type 0
SizedMeans bytes Wants = (reading_words bytes ≡ Wants) × (length bytes ≤ MOST_REQUEST_BYTES)
SizedMeans bytes (Bad fault) = (reading_words (within_size bytes) ≡ Bad fault) ⊎ IsPast fault bytes
SizedMeans bytes (Found words rest) = KeepsLimits words × (bytes ≡ request_spelling words ++ rest)

pub sized_means : (bytes : List ℕ) → SizedMeans bytes (reading bytes)
sized_means bytes = by_reading (reading_words (within_size bytes)) refl (cases_lt MOST_REQUEST_BYTES (length bytes))
  where
    over : (s : Seen (List (List ℕ))) → reading_words (one_past_size bytes) ≡ s → MOST_REQUEST_BYTES < length bytes → reading_words (within_size bytes) ≡ Wants → SizedMeans bytes (too_many s)
    over Wants is long e = inr (record { long = long; sound = e; decided = ap too_many is })
    over (Bad fault) is long e = inr (record { long = long; sound = e; decided = ap too_many is })
    over (Found words rest) is long e = inr (record { long = long; sound = e; decided = ap too_many is })

    by_reading : (s : Seen (List (List ℕ))) → reading_words (within_size bytes) ≡ s → (MOST_REQUEST_BYTES < length bytes) ⊎ (length bytes ≤ MOST_REQUEST_BYTES) → SizedMeans bytes (reading bytes)
    by_reading Wants e (inl long) =
        subst (SizedMeans bytes) (sym (past bytes long e)) (over (reading_words (one_past_size bytes)) refl long e)
    by_reading Wants e (inr short) =
        subst (SizedMeans bytes) (sym (not_past bytes short e)) (ap reading_words (sym (all_within bytes short)) ∙ e, short)
    by_reading (Bad fault) e size = subst (SizedMeans bytes) (sym (by_front bytes (Bad fault) e)) (inl e)
    by_reading (Found words rest) e size =
        let is = found_words_are (within_size bytes) words rest e in
        let spelled : bytes ≡ request_spelling words ++ (rest ++ drop MOST_REQUEST_BYTES bytes) =
        parted MOST_REQUEST_BYTES bytes ∙ ap (λ (t : List ℕ). t ++ drop MOST_REQUEST_BYTES bytes) is.1 ∙ append_assoc (request_spelling words) rest (drop MOST_REQUEST_BYTES bytes) in
        let total : length (within_size bytes) ≡ length (request_spelling words) + length rest = ap length is.1 ∙ length-append (request_spelling words) rest in
        let size : length (request_spelling words) ≤ MOST_REQUEST_BYTES = omega (arith, length-take MOST_REQUEST_BYTES bytes) in
        subst (SizedMeans bytes) (sym (by_front bytes (Found words rest) e)) (record { each = is.0; all = size }, spelled)

-- ---- what more bytes leave

pub stays_found : (front rest : List ℕ) (words : List (List ℕ)) (last : List ℕ) → reading front ≡ Found words last → reading (front ++ rest) ≡ Found words (last ++ rest)
stays_found front rest words last e =
    let is = subst (SizedMeans front) e (sized_means front) in
    ap reading (ap (λ (t : List ℕ). t ++ rest) is.1 ∙ append_assoc (request_spelling words) last rest) ∙ found_within words (last ++ rest) is.0

pub stays_bad : (front rest : List ℕ) (fault : Fault) → reading front ≡ Bad fault → reading (front ++ rest) ≡ Bad fault
stays_bad front rest fault e = by_size (cases_lt MOST_REQUEST_BYTES (length front)) (subst (SizedMeans front) e (sized_means front))
  where
    by_size : (MOST_REQUEST_BYTES < length front) ⊎ (length front ≤ MOST_REQUEST_BYTES) → SizedMeans front (Bad fault) → reading (front ++ rest) ≡ Bad fault
    by_size (inl long) means =
        let within : within_size (front ++ rest) ≡ within_size front = take-append-le MOST_REQUEST_BYTES front rest (omega arith) in
        let one : one_past_size (front ++ rest) ≡ one_past_size front = take-append-le (suc MOST_REQUEST_BYTES) front rest (omega arith) in
        elim means [
          | inl bad ↦ by_front (front ++ rest) (Bad fault) (ap reading_words within ∙ bad)
          | inr over ↦
              past (front ++ rest) (omega (arith, length-append front rest)) (ap reading_words within ∙ over.sound)
              ∙ ap (λ (t : List ℕ). too_many (reading_words t)) one ∙ over.decided
        ]
    by_size (inr short) means =
        let left : ℕ = MOST_REQUEST_BYTES - length front in
        let limit_is : MOST_REQUEST_BYTES ≡ length front + left = omega arith in
        let within : within_size (front ++ rest) ≡ front ++ take left rest = ap (λ (n : ℕ). take n (front ++ rest)) limit_is ∙ take_behind front rest left in
        elim means [
          | inl bad ↦
              by_front (front ++ rest) (Bad fault) (ap reading_words within ∙ words_stay_bad front (take left rest) fault (ap reading_words (sym (all_within front short)) ∙ bad))
          | inr over ↦ (let long = over.long in absurd (omega arith))
        ]

-- ---- decided

pub decided_within : (bytes : List ℕ) → IsDecided (reading_words bytes) → IsDecided (reading bytes)
decided_within bytes decided = by_reading (reading bytes) refl
  where
    by_reading : (s : Seen (List (List ℕ))) → reading bytes ≡ s → IsDecided (reading bytes)
    by_reading Wants e =
        let wants = subst (SizedMeans bytes) e (sized_means bytes) in
        absurd (subst (λ (s : Seen (List (List ℕ))). IsDecided s) wants.0 decided)
    by_reading (Bad fault) e = subst (λ (s : Seen (List (List ℕ))). IsDecided s) (sym e) tt
    by_reading (Found words rest) e = subst (λ (s : Seen (List (List ℕ))). IsDecided s) (sym e) tt

pub long_decided : (bytes : List ℕ) → MOST_REQUEST_BYTES < length bytes → IsDecided (reading bytes)
long_decided bytes long = by_reading (reading bytes) refl
  where
    by_reading : (s : Seen (List (List ℕ))) → reading bytes ≡ s → IsDecided (reading bytes)
    by_reading Wants e =
        let wants = subst (SizedMeans bytes) e (sized_means bytes) in
        let short = wants.1 in
        absurd (omega arith)
    by_reading (Bad fault) e = subst (λ (s : Seen (List (List ℕ))). IsDecided s) (sym e) tt
    by_reading (Found words rest) e = subst (λ (s : Seen (List (List ℕ))). IsDecided s) (sym e) tt
