-- The first bad byte: the shortest front of the bytes that decides.
use Rattle.std.proofs.Common.{◌≡◌, ℕ, suc, ◌+◌, ◌<◌, inl, inr, List, [], ◌∷◌, ◌++◌, length, drop, refl, sym, ap, subst, ◌∙◌, append_assoc, arith}
use Rattle.std.specs.Prelude.{decimal}
use Rattle.std.proofs.lemmas.Bool.{cases_lt}
use Rattle.std.proofs.lemmas.List.{append-nil, length-append, length-take, take_all, take-append-drop}
use Rattle.resp_header.specs.declared.fault.Fault.{Fault}
use Rattle.resp_header.specs.declared.fault.Fault.TheVariants.{Protocol, TooLong, Memory}
use Rattle.resp_values.specs.declared.words.TheConstants.{MOST_WORDS, MOST_WORD_BYTES, MOST_REQUEST_BYTES}
use Rattle.resp_values.specs.Request.{request_spelling}
use Rattle.resp2.specs.Stream.{IsBeginning, PassesLimit, IsBad, HasFirstBadByte}
use Rattle.resp_header.specs.Reading.{Seen, Wants, Bad, Found, header_onto}
use Rattle.resp2.specs.Reading.{reading, reading_words, within_size, one_past_size, too_many, bulks_onto}
use Rattle.resp2.proofs.RequestReading.{RequestMeans, header_onto-append, bulks_onto-append}
use Rattle.resp2.proofs.RequestRoundTrip.{IsDecided}
use Rattle.resp2.proofs.ReadingDecides.{waiting_is_beginning, waiting_passes_no_limit, bad_is_no_beginning}
use Rattle.resp2.proofs.ShortestBad.{shortest_bad}
use Rattle.resp2.proofs.SizeLimit.{IsPast, SizedMeans, sized_means, stays_bad, stays_found, decided_within, long_decided}
use Rattle.resp2.proofs.WordsDecide.{words_mean, found_words_are, one_decided, wanting_ends, ending_is_beginning, found_is_beginning, count_is_beginning, count_passes, length_is_beginning, length_passes}

-- ---- what is wrong with the shortest front

-- no shorter front decides
abbrev IsShortest : List ℕ → Type 0
IsShortest front = (shorter more : List ℕ) → front ≡ shorter ++ more → 0 < length more → reading shorter ≡ Wants

-- a front that passes a limit, and can go on, is a shortest one only if it is all
ends_there : (front shorter rest : List ℕ) → IsShortest front → front ≡ shorter ++ rest → IsBeginning shorter → PassesLimit shorter → IsBad TooLong front
ends_there front shorter [] first parts begins passes =
    let same : shorter ≡ front = sym (parts ∙ append-nil shorter) in
    (subst IsBeginning same begins, subst PassesLimit same passes)
ends_there front shorter (b ∷ bs) first parts begins passes =
    absurd (waiting_passes_no_limit shorter (first shorter (b ∷ bs) parts (omega arith)) passes)

-- the count or a length passes its limit
words_too_long : (whole front behind : List ℕ) → whole ≡ front ++ behind → IsShortest whole → reading_words front ≡ Bad TooLong → IsBad TooLong whole
words_too_long whole front behind split first e =
    let m = subst (RequestMeans MOST_WORDS MOST_WORD_BYTES front) e (words_mean front) in
    elim (m refl) [
      | inl over ↦
          let shorter : List ℕ = 42 ∷ decimal over.count in
          let parts : whole ≡ shorter ++ (over.rest ++ behind) =
          split ∙ ap (λ (t : List ℕ). t ++ behind) over.spelled ∙ append_assoc shorter over.rest behind in
          ends_there whole shorter (over.rest ++ behind) first parts (count_is_beginning over.count over.near) (inl (count_passes over.count over.above))
      | inr p ↦
          let shorter : List ℕ = header_onto 42 p.count (bulks_onto p.words (36 ∷ decimal p.number)) in
          let front_parts : header_onto 42 p.count (bulks_onto p.words (36 ∷ (decimal p.number ++ p.rest))) ≡ shorter ++ p.rest =
          sym (header_onto-append 42 p.count (bulks_onto p.words (36 ∷ decimal p.number)) p.rest
          ∙ ap (header_onto 42 p.count) (bulks_onto-append p.words (36 ∷ decimal p.number) p.rest)) in
          let parts : whole ≡ shorter ++ (p.rest ++ behind) =
          split ∙ ap (λ (t : List ℕ). t ++ behind) (p.spelled ∙ front_parts) ∙ append_assoc shorter p.rest behind in
          ends_there whole shorter (p.rest ++ behind) first parts
          (length_is_beginning p.count p.words p.number p.few p.wanted p.short p.near) (inr (inl (length_passes p.count p.words p.number p.wanted p.above)))
    ]

-- a front of one request with one byte too many
size_passes : (front rest : List ℕ) (words : List (List ℕ)) → length front ≡ MOST_REQUEST_BYTES + 1 → front ++ rest ≡ request_spelling words → PassesLimit front
size_passes front rest words above one =
    inr (inr (record { requests = []; words = words; front = front; rest = rest; one = one; above = above; spelled = refl }))

-- one byte too many came
size_too_long : (front : List ℕ) → IsShortest front → IsPast TooLong front → IsBad TooLong front
size_too_long front first over = by_reading (reading_words front) refl
  where
    -- the front with the first byte that is too many decides already
    exact : length front ≡ MOST_REQUEST_BYTES + 1
    exact = elim (cases_lt (suc MOST_REQUEST_BYTES) (length front)) [
      | inl more ↦
          let shorter : List ℕ = one_past_size front in
          let long : length shorter ≡ suc MOST_REQUEST_BYTES = length-take (suc MOST_REQUEST_BYTES) front ∙ omega arith in
          let rest : List ℕ = drop (suc MOST_REQUEST_BYTES) front in
          let split : front ≡ shorter ++ rest = sym (take-append-drop (suc MOST_REQUEST_BYTES) front) in
          let wanted : 0 < length rest = omega (arith, ap length split, length-append shorter rest) in
          absurd (subst (λ (s : Seen (List (List ℕ))). IsDecided s) (first shorter rest split wanted) (long_decided shorter (omega arith)))
      | inr less ↦ let long = over.long in omega arith
    ]

    all : one_past_size front ≡ front
    all = take_all (suc MOST_REQUEST_BYTES) front (omega (arith, exact))

    by_reading : (s : Seen (List (List ℕ))) → reading_words front ≡ s → IsBad TooLong front
    by_reading Wants e =
        let ends = wanting_ends front e in
        (ending_is_beginning front ends, size_passes front ends.more ends.words exact ends.spelled)
    by_reading (Bad fault) e =
        let bad : Bad fault ≡ Bad TooLong = sym (ap too_many (ap reading_words all ∙ e)) ∙ over.decided in
        words_too_long front front [] (sym (append-nil front)) first (e ∙ bad)
    by_reading (Found words []) e =
        let is = found_words_are front words [] e in
        (found_is_beginning front words is.0 is.1, size_passes front [] words exact (append-nil front ∙ is.1 ∙ append-nil (request_spelling words)))
    by_reading (Found words (b ∷ bs)) e =
        let is = found_words_are front words (b ∷ bs) e in
        absurd (subst (λ (s : Seen (List (List ℕ))). IsDecided s) (first (request_spelling words) (b ∷ bs) is.1 (omega arith))
        (subst (λ (t : List ℕ). IsDecided (reading t)) (append-nil (request_spelling words)) (decided_within (request_spelling words ++ []) (one_decided words []))))

too_long_is_bad : (front : List ℕ) → reading front ≡ Bad TooLong → IsShortest front → IsBad TooLong front
too_long_is_bad front e first = by_size (subst (SizedMeans front) e (sized_means front))
  where
    by_size : SizedMeans front (Bad TooLong) → IsBad TooLong front
    by_size (inl bad) =
        words_too_long front (within_size front) (drop MOST_REQUEST_BYTES front) (sym (take-append-drop MOST_REQUEST_BYTES front)) first bad
    by_size (inr over) = size_too_long front first over

shortest_is_bad : (fault : Fault) (front : List ℕ) → (fault ≡ Memory → ⊥) → reading front ≡ Bad fault → IsShortest front → IsBad fault front
shortest_is_bad Protocol front known e first = bad_is_no_beginning front e
shortest_is_bad TooLong front known e first = too_long_is_bad front e first
shortest_is_bad Memory front known e first = known refl

pub first_bad : (fault : Fault) (bytes : List ℕ) → (fault ≡ Memory → ⊥) → reading bytes ≡ Bad fault → HasFirstBadByte fault bytes
first_bad fault bytes known e =
    let s = shortest_bad reading (record { bad = stays_bad; found = stays_found }) fault bytes e in
    record {
      front = s.front;
      rest = s.rest;
      split = s.split;
      bad = shortest_is_bad fault s.front known s.bad s.first;
      first = λ shorter more parts wanted.
          let waits = s.first shorter more parts wanted in
          (waiting_is_beginning shorter waits, waiting_passes_no_limit shorter waits);
    }
