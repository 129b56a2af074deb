-- What stands in front of bytes is one of four, and no two of them at once.
use Rattle.std.proofs.Common.{◌≡◌, ℕ, zero, suc, ◌+◌, ◌-◌, ◌*◌, ◌<◌, ltb, eqb, ◌||◌, List, [], ◌∷◌, ◌++◌, length, take, drop, refl, sym, ap, subst, ◌∙◌, arith}
use Rattle.resp_header.specs.declared.fault.Fault.{Fault}
use Rattle.resp_header.specs.declared.fault.Fault.TheVariants.{Protocol, TooLong, Memory}
use Rattle.resp_values.specs.declared.words.TheConstants.{MOST_WORDS, MOST_WORD_BYTES, MOST_REQUEST_BYTES}
use Rattle.resp2.specs.Law.{Front, Whole, Unfinished, Malformed, Overlong, HasFront, BytesHaveOneFront}
use Rattle.resp2.specs.Stream.{IsUnfinished, IsBeginning, PassesLimit, IsBad, HasFirstBadByte}
use Rattle.resp_header.specs.Reading.{Seen, Wants, Bad, Found, and_then, MatchSeen, after_cr, digits_at, number_at, header_at}
use Rattle.resp2.specs.Reading.{reading, reading_words, within_size, one_past_size, too_many, sized, line_end_at, body_at, word_at, with_word, words_at}
use Rattle.resp2.proofs.ReadingDecides.{found_is, bad_has_no_request, waiting_is_unfinished, waiting_is_beginning, front_of_beginning, passing_decided}
use Rattle.resp2.proofs.FirstBadByte.{first_bad}
use Rattle.resp2.proofs.SizeLimit.{stays_bad, stays_found, wants_within}
use Rattle.resp2.proofs.WordsDecide.{front_wants}
use Rattle.resp2.proofs.HeaderReading.{by_test}
use Rattle.resp2.proofs.RequestRoundTrip.{IsDecided}
use Rattle.resp2.proofs.Theorems.{no_unfinished_is_whole}

-- ---- bytes are never short of memory

abbrev BlamesBytes : {X : Type 0} → Seen X → Type 0
BlamesBytes seen = MatchSeen seen (Unit {0}) (λ fault. fault ≡ Memory → ⊥) (λ _ _. Unit {0})

after_cr_blames : {X : Type 0} (x : X) (bs : List ℕ) → BlamesBytes (after_cr x bs)
after_cr_blames x [] = tt
after_cr_blames {X} x (b ∷ bs) = by_test (λ (u : Seen X). BlamesBytes u) (eqb b 10) (Found x bs) (Bad Protocol) (λ _. tt) (λ _ e. cc)

line_end_blames : {X : Type 0} (x : X) (bs : List ℕ) → BlamesBytes (line_end_at x bs)
line_end_blames x [] = tt
line_end_blames {X} x (b ∷ bs) =
    by_test (λ (u : Seen X). BlamesBytes u) (eqb b 13) (after_cr x bs) (Bad Protocol) (λ _. after_cr_blames x bs) (λ _ e. cc)

digits_blame : (above : Fault) (most n : ℕ) (bs : List ℕ) → (above ≡ Memory → ⊥) → BlamesBytes (digits_at above most n bs)
digits_blame above most n [] known = tt
digits_blame above most n (b ∷ bs) known =
    let Blames : Seen ℕ → Type 0 = λ u. BlamesBytes u in
    by_test Blames (eqb b 13) (after_cr n bs) _ (λ _. after_cr_blames n bs)
    (λ _. by_test Blames (eqb n 0 || (ltb b 48 || ltb 57 b)) (Bad Protocol) _ (λ _ e. cc)
    (λ _. by_test Blames (ltb most (10 * n + (b - 48))) (Bad above) (digits_at above most (10 * n + (b - 48)) bs) (λ _. known)
    (λ _. digits_blame above most (10 * n + (b - 48)) bs known)))

number_blames : (above : Fault) (least most : ℕ) (bs : List ℕ) → (above ≡ Memory → ⊥) → BlamesBytes (number_at above least most bs)
number_blames above least most [] known = tt
number_blames above least most (b ∷ bs) known =
    let Blames : Seen ℕ → Type 0 = λ u. BlamesBytes u in
    by_test Blames (ltb b 48 || ltb 57 b) (Bad Protocol) _ (λ _ e. cc)
    (λ _. by_test Blames (ltb (b - 48) least) (Bad Protocol) _ (λ _ e. cc)
    (λ _. by_test Blames (ltb most (b - 48)) (Bad above) (digits_at above most (b - 48) bs) (λ _. known)
    (λ _. digits_blame above most (b - 48) bs known)))

header_blames : (mark : ℕ) (above : Fault) (least most : ℕ) (bytes : List ℕ) → (above ≡ Memory → ⊥) → BlamesBytes (header_at mark above least most bytes)
header_blames mark above least most [] known = tt
header_blames mark above least most (b ∷ bs) known =
    by_test (λ (u : Seen ℕ). BlamesBytes u) (eqb b mark) (number_at above least most bs) (Bad Protocol)
    (λ _. number_blames above least most bs known) (λ _ e. cc)

body_blames : (n : ℕ) (bytes : List ℕ) → BlamesBytes (body_at n bytes)
body_blames n bytes =
    by_test (λ (u : Seen (List ℕ)). BlamesBytes u) (ltb (length bytes) n) Wants (line_end_at (take n bytes) (drop n bytes))
    (λ _. tt) (λ _. line_end_blames (take n bytes) (drop n bytes))

and_then_blames : {X Y : Type 0} (s : Seen X) (next : X → List ℕ → Seen Y) → BlamesBytes s → ((x : X) (rest : List ℕ) → BlamesBytes (next x rest)) → BlamesBytes (and_then s next)
and_then_blames Wants next first each = tt
and_then_blames (Bad fault) next first each = first
and_then_blames (Found x rest) next first each = each x rest

word_blames : (limit : ℕ) (bytes : List ℕ) → BlamesBytes (word_at limit bytes)
word_blames limit bytes = and_then_blames (header_at 36 TooLong 0 limit bytes) body_at (header_blames 36 TooLong 0 limit bytes (λ e. cc)) body_blames

words_blame : (limit k : ℕ) (bytes : List ℕ) → BlamesBytes (words_at limit k bytes)
words_blame limit zero bytes = tt
words_blame limit (suc k) bytes =
    and_then_blames (word_at limit bytes) (λ word rest. with_word word (words_at limit k rest)) (word_blames limit bytes)
    (λ word rest. and_then_blames (words_at limit k rest) (λ words last. Found (word ∷ words) last) (words_blame limit k rest) (λ _ _. tt))

words_reading_blames : (bytes : List ℕ) → BlamesBytes (reading_words bytes)
words_reading_blames bytes =
    and_then_blames (header_at 42 TooLong 0 MOST_WORDS bytes) (words_at MOST_WORD_BYTES) (header_blames 42 TooLong 0 MOST_WORDS bytes (λ e. cc))
    (λ k rest. words_blame MOST_WORD_BYTES k rest)

too_many_blames : (s : Seen (List (List ℕ))) → BlamesBytes s → BlamesBytes (too_many s)
too_many_blames Wants blames = λ e. cc
too_many_blames (Bad fault) blames = blames
too_many_blames (Found words rest) blames = λ e. cc

sized_blames : (bytes : List ℕ) (s : Seen (List (List ℕ))) → BlamesBytes s → BlamesBytes (sized bytes s)
sized_blames bytes Wants blames =
    by_test (λ (u : Seen (List (List ℕ))). BlamesBytes u) (ltb MOST_REQUEST_BYTES (length bytes)) (too_many (reading_words (one_past_size bytes))) Wants
    (λ _. too_many_blames (reading_words (one_past_size bytes)) (words_reading_blames (one_past_size bytes))) (λ _. tt)
sized_blames bytes (Bad fault) blames = blames
sized_blames bytes (Found words rest) blames = tt

reading_blames : (bytes : List ℕ) → BlamesBytes (reading bytes)
reading_blames bytes = sized_blames bytes (reading_words (within_size bytes)) (words_reading_blames (within_size bytes))

-- ---- one of the four

bytes_are_to_blame : (bytes : List ℕ) (fault : Fault) → reading bytes ≡ Bad fault → fault ≡ Memory → ⊥
bytes_are_to_blame bytes fault e = subst (λ (s : Seen (List (List ℕ))). BlamesBytes s) e (reading_blames bytes)

record Stands (bytes : List ℕ) : Type 0 where
  front : Front
  has : HasFront front bytes

stands : (bytes : List ℕ) → Stands bytes
stands bytes = by_reading (reading bytes) refl
  where
    broken : (fault : Fault) → reading bytes ≡ Bad fault → Stands bytes
    broken Protocol e = record { front = Malformed; has = (first_bad Protocol bytes (bytes_are_to_blame bytes Protocol e) e, bad_has_no_request bytes Protocol e) }
    broken TooLong e = record { front = Overlong; has = (first_bad TooLong bytes (bytes_are_to_blame bytes TooLong e) e, bad_has_no_request bytes TooLong e) }
    broken Memory e = absurd (bytes_are_to_blame bytes Memory e refl)

    by_reading : (s : Seen (List (List ℕ))) → reading bytes ≡ s → Stands bytes
    by_reading Wants e = record { front = Unfinished; has = waiting_is_unfinished bytes e }
    by_reading (Bad fault) e = broken fault e
    by_reading (Found words rest) e =
        let is = found_is bytes words rest e in
        record { front = Whole; has = record { words = words; rest = rest; limits = is.0; spelled = is.1 } }

-- ---- and no other

-- what decides the front of bytes decides the bytes
decided_behind : (front rest : List ℕ) → IsDecided (reading front) → IsDecided (reading (front ++ rest))
decided_behind front rest decided = by_reading (reading front) refl decided
  where
    by_reading : (s : Seen (List (List ℕ))) → reading front ≡ s → IsDecided s → IsDecided (reading (front ++ rest))
    by_reading Wants e d = absurd d
    by_reading (Bad fault) e d =
        subst (λ (s : Seen (List (List ℕ))). IsDecided s) (sym (stays_bad front rest fault e)) tt
    by_reading (Found words last) e d =
        subst (λ (s : Seen (List (List ℕ))). IsDecided s) (sym (stays_found front rest words last e)) tt

-- the beginning of a request is read as one
unfinished_waits : (bytes : List ℕ) → IsUnfinished bytes → reading bytes ≡ Wants
unfinished_waits bytes u = wants_within bytes (front_wants bytes u.rest u.words u.each u.wanted u.spelled) u.so_far

-- no byte of the beginning of a request is bad
unfinished_is_sound : (bytes : List ℕ) (fault : Fault) → IsUnfinished bytes → HasFirstBadByte fault bytes → ⊥
unfinished_is_sound bytes fault u h = by_fault fault h.bad
  where
    waits : reading bytes ≡ Wants
    waits = unfinished_waits bytes u

    by_fault : (f : Fault) → IsBad f h.front → ⊥
    by_fault Protocol bad = bad (front_of_beginning bytes h.front h.rest h.split (waiting_is_beginning bytes waits))
    by_fault TooLong bad =
        subst (λ (s : Seen (List (List ℕ))). IsDecided s) (ap reading (sym h.split) ∙ waits) (decided_behind h.front h.rest (passing_decided h.front bad.1))
    by_fault Memory bad = bad

-- two fronts of the same bytes are equal, or one is shorter
data Fronts (one other : List ℕ) : Type 0 where
  Same : one ≡ other → Fronts one other
  Shorter : (more : List ℕ) → 0 < length more → other ≡ one ++ more → Fronts one other
  Longer : (more : List ℕ) → 0 < length more → one ≡ other ++ more → Fronts one other

fronts : (one other rest more : List ℕ) → one ++ rest ≡ other ++ more → Fronts one other
fronts [] [] rest more e = Same refl
fronts [] (b ∷ other) rest more e = Shorter (b ∷ other) (omega arith) refl
fronts (a ∷ one) [] rest more e = Longer (a ∷ one) (omega arith) refl
fronts (a ∷ one) (b ∷ other) rest more e =
    let first : a ≡ b = cc in
    let tails : one ++ rest ≡ other ++ more = cc in
    behind first (fronts one other rest more tails)
  where
    behind : a ≡ b → Fronts one other → Fronts (a ∷ one) (b ∷ other)
    behind first (Same e) = Same cc
    behind first (Shorter more some e) = Shorter more some (ap (λ (t : List ℕ). b ∷ t) e ∙ ap (λ (c : ℕ). c ∷ (one ++ more)) (sym first))
    behind first (Longer more some e) = Longer more some (ap (λ (t : List ℕ). a ∷ t) e ∙ ap (λ (c : ℕ). c ∷ (other ++ more)) first)

-- what is sound in front of a bad byte doesn't end in one
sound_is_not_bad : (fault : Fault) (front : List ℕ) → IsBad fault front → IsBeginning front × ¬ PassesLimit front → ⊥
sound_is_not_bad Protocol front bad sound = bad sound.0
sound_is_not_bad TooLong front bad sound = sound.1 bad.1
sound_is_not_bad Memory front bad sound = bad

one_fault : (fault other : Fault) (front : List ℕ) → IsBad fault front → IsBad other front → fault ≡ other
one_fault Protocol Protocol front bad worse = refl
one_fault TooLong TooLong front bad worse = refl
one_fault Protocol TooLong front bad worse = absurd (bad worse.0)
one_fault TooLong Protocol front bad worse = absurd (worse bad.0)
one_fault Memory other front bad worse = absurd bad
one_fault Protocol Memory front bad worse = absurd worse
one_fault TooLong Memory front bad worse = absurd worse

one_first_bad : (fault other : Fault) (bytes : List ℕ) → HasFirstBadByte fault bytes → HasFirstBadByte other bytes → fault ≡ other
one_first_bad fault other bytes h k = by_fronts (fronts h.front k.front h.rest k.rest (sym h.split ∙ k.split))
  where
    by_fronts : Fronts h.front k.front → fault ≡ other
    by_fronts (Same e) = one_fault fault other k.front (subst (IsBad fault) e h.bad) k.bad
    by_fronts (Shorter more some e) = absurd (sound_is_not_bad fault h.front h.bad (k.first h.front more e some))
    by_fronts (Longer more some e) = absurd (sound_is_not_bad other k.front k.bad (h.first k.front more e some))

one_front : (one other : Front) (bytes : List ℕ) → HasFront one bytes → HasFront other bytes → one ≡ other
one_front Whole Whole bytes h k = refl
one_front Unfinished Unfinished bytes h k = refl
one_front Malformed Malformed bytes h k = refl
one_front Overlong Overlong bytes h k = refl
one_front Whole Unfinished bytes h k = absurd (no_unfinished_is_whole bytes k h.words h.rest h.limits h.spelled)
one_front Unfinished Whole bytes h k = absurd (no_unfinished_is_whole bytes h k.words k.rest k.limits k.spelled)
one_front Whole Malformed bytes h k = absurd (k.1 h.words h.rest h.limits h.spelled)
one_front Malformed Whole bytes h k = absurd (h.1 k.words k.rest k.limits k.spelled)
one_front Whole Overlong bytes h k = absurd (k.1 h.words h.rest h.limits h.spelled)
one_front Overlong Whole bytes h k = absurd (h.1 k.words k.rest k.limits k.spelled)
one_front Unfinished Malformed bytes h k = absurd (unfinished_is_sound bytes Protocol h k.0)
one_front Malformed Unfinished bytes h k = absurd (unfinished_is_sound bytes Protocol k h.0)
one_front Unfinished Overlong bytes h k = absurd (unfinished_is_sound bytes TooLong h k.0)
one_front Overlong Unfinished bytes h k = absurd (unfinished_is_sound bytes TooLong k h.0)
one_front Malformed Overlong bytes h k = absurd (let e : Protocol ≡ TooLong = one_first_bad Protocol TooLong bytes h.0 k.0 in cc)
one_front Overlong Malformed bytes h k = absurd (let e : TooLong ≡ Protocol = one_first_bad TooLong Protocol bytes h.0 k.0 in cc)

pub bytes_have_one_front : BytesHaveOneFront
bytes_have_one_front bytes =
    let s = stands bytes in
    record { front = s.front; has = s.has; only = λ other has. one_front other s.front bytes has s.has }
