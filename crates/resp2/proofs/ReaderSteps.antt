-- The steps of a reader, as facts on what they leave.
use Rattle.std.proofs.Common.{◌≡◌, ℕ, Bool, true, false, ◌+◌, ◌-◌, ◌^◌, ◌<◌, ◌≤◌, zero, suc, List, [], ◌∷◌, ◌++◌, length, drop, Option, None, Some, Result, Ok, refl, sym, ap, subst, ◌∙◌, append_assoc, zero-add, arith}
use Rattle.std.specs.Bool.{OnTrue}
use Rattle.std.specs.Prelude.{All, IfSome, IfNone}
use Rattle.std.proofs.lemmas.List.{length-append, append-nil}
use Rattle.resp_header.specs.declared.fault.Fault.{Fault}
use Rattle.resp_header.specs.declared.fault.Fault.TheVariants.{Protocol, TooLong, Memory}
use Rattle.resp_header.specs.declared.header.Header.{Header}
use Rattle.resp2.specs.declared.reader.Progress.{Progress}
use Rattle.resp2.specs.declared.words.Partial.{Partial}
use Rattle.resp_values.specs.declared.words.TheConstants.{MOST_WORDS, MOST_WORD_BYTES}
use Rattle.resp_header.specs.Header.{Gives}
use Rattle.resp_header.specs.Reading.{Seen, Wants, Bad, Found, header_at, header_onto}
use Rattle.resp2.specs.Reading.{reading, reading_words, body_at, word_at, words_at, bulks_onto}
use Rattle.resp2.specs.Progress.{Refuses, Takes, TakesWord, HasLen, IsPartial, word_front, partial_onto, request_front, partial_of, pending_of}
use Rattle.resp2.specs.Reader.{ReaderState, empty_requests, PassesOver, HandsOut, Waits, Breaks, FailsBy, remembered}
use Rattle.resp_values.specs.Request.{request_spelling, header_spelling, bulks_spelling, IsRequest, KeepsLimits, WordsKeepLimits}
use Rattle.resp2.specs.Stream.{IsUnfinished}
use Rattle.resp2.proofs.HeaderReading.{header_is}
use Rattle.resp2.proofs.RequestReading.{word_takes, header_onto-append, bulks_onto-append}
use Rattle.resp2.proofs.RequestRoundTrip.{body_behind, request_behind, with_words}
use Rattle.resp_values.proofs.Each.{each_by_recursion, each_by_index}
use Rattle.resp2.proofs.FirstBadByte.{first_bad}
use Rattle.resp2.proofs.ReadingDecides.{found_is, waiting_is_unfinished, bad_has_no_request}
use Rattle.resp2.proofs.WordsDecide.{AreShort-append, bulks_onto-both, bytes_some, bytes_bound, words_some, words_bound}

-- ---- a header

-- the header of a length, once it is read
pub length_is : (bytes input : List ℕ) (found : Option Header) (header : Header)
    → bytes ≡ input → Gives bytes (Ok found) (header_at 36 TooLong 0 MOST_WORD_BYTES bytes) → found ≡ Some header
    → (header.number ≤ MOST_WORD_BYTES) × (input ≡ header_onto 36 header.number (drop header.len input))
length_is bytes input found header same gives is =
    let bound : MOST_WORD_BYTES < 2 ^ 60 = bytes_bound in
    let read = header_is 36 TooLong 0 MOST_WORD_BYTES bytes input found header bytes_some (omega arith) (omega (arith, bound)) same gives is in
    (read.1, read.2)

-- the header of a request, once it is read
pub count_is : (bytes input : List ℕ) (found : Option Header) (header : Header)
    → bytes ≡ input → Gives bytes (Ok found) (header_at 42 TooLong 0 MOST_WORDS bytes) → found ≡ Some header
    → (header.number ≤ MOST_WORDS) × (input ≡ header_onto 42 header.number (drop header.len input))
count_is bytes input found header same gives is =
    let bound : MOST_WORDS < 2 ^ 60 = words_bound in
    let read = header_is 42 TooLong 0 MOST_WORDS bytes input found header words_some (omega arith) (omega (arith, bound)) same gives is in
    (read.1, read.2)

-- ---- a word

-- a word whose length was read is the word in front
pub takes_word : (result : Result Bool Fault) (known len : Option ℕ) (number : ℕ) (front input rest : List ℕ) (old new : List (List ℕ))
    → known ≡ Some number → IfSome known (λ number. len ≡ Some number) → HasLen len → word_front len input ≡ front
    → TakesWord result (body_at number input) old new rest → TakesWord result (word_at MOST_WORD_BYTES front) old new rest
takes_word result known len number front input rest old new is told sized kept takes =
    let len_is : len ≡ Some number = subst (λ (o : Option ℕ). IfSome o (λ number. len ≡ Some number)) is told in
    let bound : MOST_WORD_BYTES < 2 ^ 60 = bytes_bound in
    let short : number ≤ MOST_WORD_BYTES = subst HasLen len_is sized in
    let front_is : header_onto 36 number input ≡ front = ap (λ (o : Option ℕ). word_front o input) (sym len_is) ∙ kept in
    let same : body_at number input ≡ word_at MOST_WORD_BYTES front =
    sym (body_behind MOST_WORD_BYTES number input (omega arith) short) ∙ ap (word_at MOST_WORD_BYTES) front_is in
    subst (λ (s : Seen (List ℕ)). TakesWord result s old new rest) same takes

-- ---- words, one after another

-- words were taken, and the same bytes are pending
pub record GoesOn (old : Partial) (before : List ℕ) (new : Partial) (after : List ℕ) : Type 0 where
  pub partial : IsPartial new
  pub kept : partial_onto new after ≡ partial_onto old before
  pub shrinks : length after ≤ length before

AreShort-push : (words : List (List ℕ)) (word : List ℕ)
    → All (λ word. length word ≤ MOST_WORD_BYTES) words → length word ≤ MOST_WORD_BYTES
    → All (λ word. length word ≤ MOST_WORD_BYTES) (words ++ word ∷ [])
AreShort-push words word each short =
    let IsShort : List ℕ → Type 0 = λ word. length word ≤ MOST_WORD_BYTES in
    each_by_index IsShort (words ++ word ∷ []) (AreShort-append MOST_WORD_BYTES words (word ∷ []) (each_by_recursion IsShort words each) (short, tt))

pub taken_behind : (taken : Bool) (seen : Seen (List ℕ)) (old now new : List (List ℕ)) (rest : List ℕ) → taken ≡ true → old ≡ now
    → TakesWord (Ok taken) seen old new rest → TakesWord (Ok true) seen now new rest
taken_behind taken seen old now new rest is same takes =
    subst (λ (ws : List (List ℕ)). TakesWord (Ok true) seen ws new rest) same (subst (λ (b : Bool). TakesWord (Ok b) seen old new rest) is takes)

pub none_left_of : (taken : Bool) (len : Option ℕ) → taken ≡ true → OnTrue taken (len ≡ None) → len ≡ None
none_left_of taken len is idle = subst (λ (b : Bool). OnTrue b (len ≡ None)) is idle

pub word_wants : (taken : Bool) (seen : Seen (List ℕ)) (old new : List (List ℕ)) (rest : List ℕ) → taken ≡ false → TakesWord (Ok taken) seen old new rest → seen ≡ Wants
word_wants taken seen old new rest is takes =
    let none : TakesWord (Ok false) seen old new rest = subst (λ (b : Bool). TakesWord (Ok b) seen old new rest) is takes in
    none.0

-- one more word was taken
pub goes_on : (first : Partial) (start : List ℕ) (now : Partial) (input : List ℕ) (rest : List ℕ) (next : Partial)
    → GoesOn first start now input → 0 < now.left
    → TakesWord (Ok true) (word_at MOST_WORD_BYTES (word_front now.len input)) now.words.items next.words.items rest
    → next.len ≡ None → next.left ≡ now.left - 1 → length rest ≤ length input
    → GoesOn first start next rest
goes_on first start now input rest next before some takes none fewer shorter =
    let ws : List (List ℕ) = now.words.items in
    let word : List ℕ = takes.0 in
    let found : word_at MOST_WORD_BYTES (word_front now.len input) ≡ Found word rest = takes.1 in
    let pushed : next.words.items ≡ ws ++ word ∷ [] = takes.2 in
    let w = word_takes MOST_WORD_BYTES (word_front now.len input) word rest bytes_some bytes_bound found in
    let few : length ws + now.left ≤ MOST_WORDS = before.partial.few in
    let longer : length next.words.items ≡ length ws + 1 = ap length pushed ∙ length-append ws (word ∷ []) in
    let count : length next.words.items + next.left ≡ length ws + now.left = omega arith in
    let short = subst (All (λ word. length word ≤ MOST_WORD_BYTES)) (sym pushed) (AreShort-push ws word before.partial.short w.short) in
    record {
      partial = record { few = omega arith; short = short; sized = subst HasLen (sym none) tt; idle = λ _. none };
      kept = ap (λ (o : Option ℕ). header_onto 42 (length next.words.items + next.left) (bulks_onto next.words.items (word_front o rest))) none
          ∙ ap (λ (k : ℕ). header_onto 42 k (bulks_onto next.words.items rest)) count
          ∙ ap (λ (t : List (List ℕ)). header_onto 42 (length ws + now.left) (bulks_onto t rest)) pushed
          ∙ ap (header_onto 42 (length ws + now.left)) (bulks_onto-both ws (word ∷ []) rest ∙ ap (bulks_onto ws) (sym w.spelled))
          ∙ before.kept;
      shrinks = (let so_far = before.shrinks in omega arith);
    }

-- what the words to come decide, the request does
pub reading_partial : (partial : Partial) (input : List ℕ) → IsPartial partial
    → reading_words (partial_onto partial input)
    ≡ with_words partial.words.items (words_at MOST_WORD_BYTES partial.left (word_front partial.len input))
reading_partial partial input is =
    let words_limit : MOST_WORDS < 2 ^ 60 = words_bound in
    let bytes_limit : MOST_WORD_BYTES < 2 ^ 60 = bytes_bound in
    let each = each_by_recursion (λ (word : List ℕ). length word ≤ MOST_WORD_BYTES) partial.words.items is.short in
    request_behind MOST_WORDS MOST_WORD_BYTES partial.words.items partial.left (word_front partial.len input) (omega arith) (omega arith) is.few each

reading_is : (first : Partial) (start : List ℕ) (now : Partial) (input : List ℕ) → GoesOn first start now input
    → reading_words (partial_onto first start)
    ≡ with_words now.words.items (words_at MOST_WORD_BYTES now.left (word_front now.len input))
reading_is first start now input goes = ap reading_words (sym goes.kept) ∙ reading_partial now input goes.partial

-- the next word wants more bytes
pub waits_on : (first : Partial) (start : List ℕ) (now : Partial) (input : List ℕ)
    → GoesOn first start now input → 0 < now.left
    → word_at MOST_WORD_BYTES (word_front now.len input) ≡ Wants
    → reading_words (partial_onto first start) ≡ Wants
waits_on first start now input goes some wants =
    reading_is first start now input goes ∙ ap (with_words now.words.items) (words_want now.left some)
  where
    words_want : (k : ℕ) → 0 < k → words_at MOST_WORD_BYTES k (word_front now.len input) ≡ Wants
    words_want zero none = absurd (omega arith)
    words_want (suc k) more = rw wants refl

-- the next word is bad
pub fails_on : (fault : Fault) (first : Partial) (start : List ℕ) (now : Partial) (input : List ℕ) → GoesOn first start now input → 0 < now.left
    → Refuses fault (word_at MOST_WORD_BYTES (word_front now.len input)) → Refuses fault (reading_words (partial_onto first start))
fails_on fault first start now input goes some refuses known =
    reading_is first start now input goes ∙ ap (with_words now.words.items) (words_bad now.left some)
  where
    words_bad : (k : ℕ) → 0 < k → words_at MOST_WORD_BYTES k (word_front now.len input) ≡ Bad fault
    words_bad zero none = absurd (omega arith)
    words_bad (suc k) more = rw (refuses known) refl

-- no word is left
pub all_taken : (first : Partial) (start : List ℕ) (now : Partial) (input : List ℕ) → GoesOn first start now input → now.left ≤ 0
    → reading_words (partial_onto first start) ≡ Found now.words.items input
all_taken first start now input goes done =
    let none : now.left ≡ 0 = omega arith in
    reading_is first start now input goes
    ∙ ap (λ (k : ℕ). with_words now.words.items (words_at MOST_WORD_BYTES k (word_front now.len input))) none
    ∙ ap (λ (o : Option ℕ). with_words now.words.items (Found [] (word_front o input))) (goes.partial.idle none)
    ∙ ap (λ (ws : List (List ℕ)). Found ws input) (append-nil now.words.items)

pub whole_keeps_limits : (now : Partial) → IsPartial now → now.left ≤ 0 → WordsKeepLimits now.words.items
whole_keeps_limits now is done =
    let few : length now.words.items + now.left ≤ MOST_WORDS = is.few in
    record { few = omega arith; short = is.short }

-- a request of which only the header was read
pub begins : (begun : Partial) → begun.words.items ≡ [] → begun.len ≡ None → begun.left ≤ MOST_WORDS → IsPartial begun
begins begun empty none few =
    let long : length begun.words.items ≡ 0 = ap length empty in
    record { few = omega arith; short = rw empty (λ k d lt. absurd (omega arith)); sized = rw none tt; idle = λ _. none }

pub begun_onto : (begun : Partial) (input : List ℕ) → begun.words.items ≡ [] → begun.len ≡ None
    → partial_onto begun input ≡ header_onto 42 begun.left input
begun_onto begun input empty none =
    ap (λ (o : Option ℕ). header_onto 42 (length begun.words.items + begun.left) (bulks_onto begun.words.items (word_front o input))) none
    ∙ ap (λ (ws : List (List ℕ)). header_onto 42 (length ws + begun.left) (bulks_onto ws input)) empty
    ∙ ap (λ (k : ℕ). header_onto 42 k input) (zero-add begun.left)

-- ---- the reader's states

abbrev state : List ℕ → Option Fault → ReaderState
state pending fault = record { pending = pending; fault = fault }

word_front-append : (len : Option ℕ) (input more : List ℕ) → word_front len (input ++ more) ≡ word_front len input ++ more
word_front-append None input more = refl
word_front-append (Some len) input more = sym (header_onto-append 36 len input more)

pub request_front-append : (partial : Option Partial) (input more : List ℕ) → request_front partial (input ++ more) ≡ request_front partial input ++ more
request_front-append None input more = refl
request_front-append (Some partial) input more =
    let count : ℕ = length partial.words.items + partial.left in
    ap (λ (t : List ℕ). header_onto 42 count (bulks_onto partial.words.items t)) (word_front-append partial.len input more)
    ∙ ap (header_onto 42 count) (sym (bulks_onto-append partial.words.items (word_front partial.len input) more))
    ∙ sym (header_onto-append 42 count (bulks_onto partial.words.items (word_front partial.len input)) more)

-- what is fed is pending behind the rest
pub fed : (progress : Progress) (input bytes later : List ℕ) (fault : Option Fault) (old : ReaderState)
    → state (pending_of progress input) fault ≡ old → later ≡ input ++ bytes
    → state (pending_of progress later) fault ≡ state (old.pending ++ bytes) old.fault
fed progress input bytes later fault old view_is grown =
    ap (λ (t : List ℕ). state (pending_of progress t) fault) grown
    ∙ ap (λ (t : List ℕ). state t fault) (request_front-append (partial_of progress) input bytes)
    ∙ ap (λ (s : ReaderState). state (s.pending ++ bytes) s.fault) view_is

-- ---- the requests without words that are passed over

-- one more of them may stand behind the others as well
empties-push : (count : ℕ) → empty_requests (suc count) ≡ empty_requests count ++ request_spelling []
empties-push zero = append-nil (request_spelling [])
empties-push (suc count) =
    ap (λ (t : List ℕ). request_spelling [] ++ t) (empties-push count)
    ∙ sym (append_assoc (request_spelling []) (empty_requests count) (request_spelling []))

pub passes_none : (old : ReaderState) → PassesOver old old
passes_none old = record { count = 0; consumed = refl }

pub passes_one : (old : ReaderState) (pending later : List ℕ) (words : List (List ℕ)) → PassesOver old (state pending None) → words ≡ [] → reading pending ≡ Found words later
    → PassesOver old (state later None)
passes_one old pending later words so_far none found =
    let is = found_is pending words later found in
    let bytes : pending ≡ request_spelling [] ++ later = is.1 ∙ ap (λ (ws : List (List ℕ)). request_spelling ws ++ later) none in
    record {
      count = suc so_far.count;
      consumed = so_far.consumed ∙ ap (λ (t : List ℕ). empty_requests so_far.count ++ t) bytes
          ∙ sym (append_assoc (empty_requests so_far.count) (request_spelling []) later)
          ∙ ap (λ (t : List ℕ). t ++ later) (sym (empties-push so_far.count));
    }

-- a request that is whole
pub hands_out : (old : ReaderState) (pending later : List ℕ) (frame words : List (List ℕ)) (after : Option Fault) → old.fault ≡ None → PassesOver old (state pending None)
    → (words ≡ frame) × IsRequest frame → reading pending ≡ Found frame later → after ≡ None → HandsOut old words (state later after)
hands_out old pending later frame words after sound so_far request found none =
    let is = found_is pending frame later found in
    subst (λ (ws : List (List ℕ)). HandsOut old ws (state later after)) (sym request.0)
    (record {
      sound = sound;
      request = request.1;
      count = so_far.count;
      consumed = so_far.consumed ∙ ap (λ (t : List ℕ). empty_requests so_far.count ++ t) is.1
          ∙ sym (append_assoc (empty_requests so_far.count) (request_spelling frame) later);
      still_sound = none;
    })

-- a request that waits
pub waits : (old : ReaderState) (pending later : List ℕ) (after : Option Fault) → old.fault ≡ None → PassesOver old (state pending None) → later ≡ pending
    → reading pending ≡ Wants → after ≡ None → Waits old (state later after)
waits old pending later after sound so_far kept wants none = record {
  sound = sound;
  passes_over = record { count = so_far.count; consumed = so_far.consumed ∙ ap (λ (t : List ℕ). empty_requests so_far.count ++ t) (sym kept) };
  unfinished = subst IsUnfinished (sym kept) (waiting_is_unfinished pending wants);
  still_sound = none;
}

-- by what was taken
pub wants_more : (found : Option (List (List ℕ))) (seen : Seen (List (List ℕ))) (rest : List ℕ) → found ≡ None → Takes (Ok found) seen rest → seen ≡ Wants
wants_more found seen rest none takes = subst (λ (o : Option (List (List ℕ))). Takes (Ok o) seen rest) none takes

pub same_if_none : (found : Option (List (List ℕ))) (later pending : List ℕ) → found ≡ None → IfNone found (later ≡ pending) → later ≡ pending
same_if_none found later pending none same = subst (λ (o : Option (List (List ℕ))). IfNone o (later ≡ pending)) none same

pub found_frame : (found : Option (List (List ℕ))) (frame : List (List ℕ)) (seen : Seen (List (List ℕ))) (rest : List ℕ) → found ≡ Some frame → Takes (Ok found) seen rest → seen ≡ Found frame rest
found_frame found frame seen rest some takes = subst (λ (o : Option (List (List ℕ))). Takes (Ok o) seen rest) some takes

pub frame_limits : (frame : List (List ℕ)) (pending later : List ℕ) → reading pending ≡ Found frame later → KeepsLimits frame
frame_limits frame pending later found = (found_is pending frame later found).0

pub shorter : (frame : List (List ℕ)) (pending later : List ℕ) → reading pending ≡ Found frame later → length later < length pending
shorter frame pending later found =
    let is = found_is pending frame later found in
    omega (arith, ap length is.1, length-append (request_spelling frame) later, length-append (header_spelling 42 (length frame)) (bulks_spelling frame))

-- a fault of the bytes
breaks : (fault : Fault) (old : ReaderState) (pending : List ℕ) → (fault ≡ Memory → ⊥) → PassesOver old (state pending None) → reading pending ≡ Bad fault
    → Breaks fault old (state pending (Some fault))
breaks fault old pending known so_far bad = record {
  passes_over = record { count = so_far.count; consumed = so_far.consumed };
  first = first_bad fault pending known bad;
  none = bad_has_no_request pending fault bad;
  kept = refl;
}

anyway : (o : Option Fault) (P : Type 0) → P → IfNone o P
anyway None P p = p
anyway (Some fault) P p = tt

pub fails : (fault : Fault) (old : ReaderState) (pending later : List ℕ) (after : Option Fault) → old.fault ≡ None → PassesOver old (state pending None)
    → later ≡ pending → Refuses fault (reading pending) → after ≡ remembered fault → IfNone old.fault (FailsBy fault old (state later after))
fails fault old pending later after sound so_far kept refuses remembers =
    anyway old.fault (FailsBy fault old (state later after))
    (subst (λ (o : Option Fault). FailsBy fault old (state later o)) (sym remembers)
    (subst (λ (t : List ℕ). FailsBy fault old (state t (remembered fault))) (sym kept) (by_fault fault refuses)))
  where
    by_fault : (f : Fault) → Refuses f (reading pending) → FailsBy f old (state pending (remembered f))
    by_fault Memory r = (record { count = so_far.count; consumed = so_far.consumed }, sym sound)
    by_fault Protocol r = breaks Protocol old pending (λ e. cc) so_far (r (λ e. cc))
    by_fault TooLong r = breaks TooLong old pending (λ e. cc) so_far (r (λ e. cc))
