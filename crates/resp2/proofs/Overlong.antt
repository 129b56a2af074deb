-- The steps of a reader at a request of too many bytes, as facts on what they leave.
use Rattle.std.proofs.Common.{◌≡◌, ℕ, zero, suc, ◌+◌, ◌-◌, ◌<◌, ◌≤◌, Bool, true, false, cond, List, [], ◌∷◌, ◌++◌, length, take, drop, Option, None, Some, Ok, refl, sym, ap, subst, ◌∙◌, append_assoc, take-append-drop, arith}
use Rattle.std.specs.Prelude.{IfSome, IfNone}
use Rattle.std.proofs.lemmas.Bool.{lt-ltb}
use Rattle.std.proofs.lemmas.List.{length-append, length-take, take_all, take-append-le}
use Rattle.resp_header.specs.declared.fault.Fault.{Fault}
use Rattle.resp_header.specs.declared.fault.Fault.TheVariants.{Memory, Protocol, TooLong}
use Rattle.resp2.specs.declared.reader.Progress.{Progress}
use Rattle.resp2.specs.declared.reader.Progress.TheVariants.{Between, Reading, Broken}
use Rattle.resp2.specs.declared.words.Partial.{Partial}
use Rattle.resp_values.specs.declared.words.TheConstants.{MOST_WORD_BYTES, MOST_REQUEST_BYTES}
use Rattle.resp2.specs.Progress.{Refuses, TakesAll, FaultOfFront, IsCounted, IsCountedOrBroken, IsProgress, word_front, partial_onto, partial_of, request_front, pending_of, fault_of}
use Rattle.resp_header.specs.Reading.{Seen, Wants, Bad, Found}
use Rattle.resp2.specs.Reading.{reading, reading_words, one_past_size, too_many, line_end_at, word_at, words_at}
use Rattle.resp2.specs.Reader.{remembered}
use Rattle.resp_values.specs.Request.{request_spelling}
use Rattle.resp2.proofs.MoreBytes.{words_stay_found}
use Rattle.resp2.proofs.ReaderSteps.{request_front-append, reading_partial}
use Rattle.resp2.proofs.RequestRoundTrip.{body_behind, with_words}
use Rattle.resp2.proofs.SizeLimit.{wants_before, wants_within, wants_past, all_want_past, found_within, found_past, bad_within}
use Rattle.resp2.proofs.WordsDecide.{found_words_are, bytes_bound}

-- ---- what was consumed, and what is left

-- what was consumed stands in front
pub pending-parts : (progress : Progress) (input : List ℕ) → pending_of progress input ≡ pending_of progress [] ++ input
pending-parts progress input = request_front-append (partial_of progress) [] input

pub pending-len : (progress : Progress) (input : List ℕ) → length (pending_of progress input) ≡ length (pending_of progress []) + length input
pending-len progress input = ap length (pending-parts progress input) ∙ length-append (pending_of progress []) input

-- bytes that are fed aren't consumed
pub fed_counted : (consumed : ℕ) (progress : Progress) (input later bytes : List ℕ) → later ≡ input ++ bytes → IsCountedOrBroken consumed progress input → IsCountedOrBroken consumed progress later
fed_counted consumed progress input later bytes grown is = by_fault (fault_of progress) is
  where
    fed_more : IsCounted consumed progress input → IsCounted consumed progress later
    fed_more counts =
        let before = counts.counted in
        record { counted = omega (arith, pending-len progress input, pending-len progress later); few = counts.few }

    by_fault : (o : Option Fault) → IfNone o (IsCounted consumed progress input) → IfNone o (IsCounted consumed progress later)
    by_fault None counts = fed_more counts
    by_fault (Some fault) counts = tt

-- two ways to part the same bytes, of which one leaves fewer behind
same_parts : (front other t rest : List ℕ) → other ++ rest ≡ front ++ t → length rest ≤ length t → (more : List ℕ) × (other ≡ front ++ more) × (t ≡ more ++ rest)
same_parts [] other t rest e fewer = (other, refl, sym e)
same_parts (f ∷ front) [] t rest e fewer =
    absurd (omega (arith, ap length e, length-append front t))
same_parts (f ∷ front) (o ∷ other) t rest e fewer =
    let head : o ≡ f = cc in
    let tails : other ++ rest ≡ front ++ t = cc in
    let ih = same_parts front other t rest tails fewer in
    (ih.0, ap (λ (x : ℕ). x ∷ other) head ∙ ap (λ (xs : List ℕ). f ∷ xs) ih.1, ih.2)

drop_front : (more rest : List ℕ) (n : ℕ) → n ≡ length more → drop n (more ++ rest) ≡ rest
drop_front [] rest n e = ap (λ (k : ℕ). drop k rest) e
drop_front (m ∷ more) rest n e = ap (λ (k : ℕ). drop k (m ∷ (more ++ rest))) e ∙ drop_front more rest (length more) refl

-- what a front of the input left stands before the rest of the input
pub front_kept : (progress next : Progress) (input left later : List ℕ) (len : ℕ) → len < length input → length left ≤ length (take len input)
    → pending_of next left ≡ pending_of progress (take len input) → later ≡ drop (len - length left) input → pending_of next later ≡ pending_of progress input
front_kept progress next input left later len within fewer kept dropped =
    let t : List ℕ = take len input in
    let tail : List ℕ = drop len input in
    let long : length t ≡ len = length-take len input ∙ omega arith in
    let parts = same_parts (pending_of progress []) (pending_of next []) t left (sym (pending-parts next left) ∙ kept ∙ pending-parts progress t) fewer in
    let more : List ℕ = parts.0 in
    let taken : len - length left ≡ length more = omega (arith, ap length parts.2, length-append more left) in
    let input_is : input ≡ more ++ (left ++ tail) =
    sym (take-append-drop len input) ∙ ap (λ (xs : List ℕ). xs ++ tail) parts.2 ∙ append_assoc more left tail in
    let later_is : later ≡ left ++ tail = dropped ∙ ap (drop (len - length left)) input_is ∙ drop_front more (left ++ tail) (len - length left) taken in
    pending-parts next later
    ∙ ap (λ (xs : List ℕ). pending_of next [] ++ xs) later_is
    ∙ ap (λ (xs : List ℕ). xs ++ (left ++ tail)) parts.1
    ∙ append_assoc (pending_of progress []) more (left ++ tail)
    ∙ ap (λ (xs : List ℕ). pending_of progress [] ++ xs) (sym input_is)
    ∙ sym (pending-parts progress input)

-- a front that has a request in it has no bad byte behind that
pub front_not_found : {P : Type 0} (progress : Progress) (input rest : List ℕ) (len : ℕ) (words : List (List ℕ)) (fault : Fault)
    → reading_words (pending_of progress (take len input)) ≡ Found words rest → reading_words (pending_of progress input) ≡ Bad fault → P
front_not_found progress input rest len words fault found bad =
    let tail : List ℕ = drop len input in
    let whole : pending_of progress (take len input) ++ tail ≡ pending_of progress input =
    ap (λ (xs : List ℕ). xs ++ tail) (pending-parts progress (take len input))
    ∙ append_assoc (pending_of progress []) (take len input) tail
    ∙ ap (λ (xs : List ℕ). pending_of progress [] ++ xs) (take-append-drop len input)
    ∙ sym (pending-parts progress input) in
    let both : Found words (rest ++ tail) ≡ Bad fault =
    sym (words_stay_found (pending_of progress (take len input)) tail words rest found) ∙ ap reading_words whole ∙ bad in
    absurd cc

-- ---- more was consumed than a request may have

-- what was consumed is a beginning, or all of a request
abbrev IsSound : List ℕ → Seen (List (List ℕ)) → Type 0
IsSound bytes Wants = Unit {0}
IsSound bytes (Bad fault) = ⊥
IsSound bytes (Found words rest) = rest ≡ []

word_front_wants : (len : Option ℕ) → IfSome len (λ n. n ≤ MOST_WORD_BYTES) → word_at MOST_WORD_BYTES (word_front len []) ≡ Wants
word_front_wants None short = refl
word_front_wants (Some zero) short = let b = bytes_bound in body_behind MOST_WORD_BYTES zero [] (omega arith) short
word_front_wants (Some (suc n)) short =
    let b = bytes_bound in
    body_behind MOST_WORD_BYTES (suc n) [] (omega arith) short ∙ ap (λ (t : Bool). cond t Wants (line_end_at [] [])) (lt-ltb 0 (suc n) (omega arith))

consumed_is_sound : (progress : Progress) → IsProgress progress → fault_of progress ≡ None → IsSound (pending_of progress []) (reading_words (pending_of progress []))
consumed_is_sound Between is sound = tt
consumed_is_sound (Broken fault partial) is sound = absurd cc
consumed_is_sound (Reading partial) is sound =
    subst (λ (s : Seen (List (List ℕ))). IsSound (partial_onto partial []) s) (sym (reading_partial partial [] is)) (by_left partial.left refl)
  where
    items : List (List ℕ)
    items = partial.words.items

    by_left : (k : ℕ) → partial.left ≡ k → IsSound (partial_onto partial []) (with_words items (words_at MOST_WORD_BYTES k (word_front partial.len [])))
    by_left zero none = ap (λ (o : Option ℕ). word_front o []) (is.idle none)
    by_left (suc k) some = rw (word_front_wants partial.len is.sized) tt

pub consumed_past : (progress : Progress) (input : List ℕ) (consumed : ℕ) → IsProgress progress → fault_of progress ≡ None
    → consumed + length input ≡ length (pending_of progress input) → MOST_REQUEST_BYTES < consumed → reading (pending_of progress input) ≡ Bad TooLong
consumed_past progress input consumed is sound counted past =
    subst (λ (t : List ℕ). reading t ≡ Bad TooLong) (sym (pending-parts progress input)) (by_reading (reading_words front) refl (consumed_is_sound progress is sound))
  where
    front : List ℕ
    front = pending_of progress []

    long : MOST_REQUEST_BYTES < length front
    long = let all : length (pending_of progress input) ≡ length front + length input = pending-len progress input in omega arith

    by_reading : (s : Seen (List (List ℕ))) → reading_words front ≡ s → IsSound front (reading_words front) → reading (front ++ input) ≡ Bad TooLong
    by_reading Wants e is =
        let more = long in
        let one : one_past_size (front ++ input) ≡ one_past_size front = take-append-le (suc MOST_REQUEST_BYTES) front input (omega arith) in
        wants_past (front ++ input) (omega (arith, length-append front input))
        (ap reading_words one ∙ wants_before (one_past_size front) (drop (suc MOST_REQUEST_BYTES) front) (ap reading_words (take-append-drop (suc MOST_REQUEST_BYTES) front) ∙ e))
    by_reading (Bad fault) e is = absurd (subst (IsSound front) e is)
    by_reading (Found words rest) e is =
        let none : rest ≡ [] = subst (IsSound front) e is in
        let spelled = found_words_are front words rest e in
        let more = long in
        let all : length front ≡ length (request_spelling words) + length rest = ap length spelled.1 ∙ length-append (request_spelling words) rest in
        found_past (front ++ input) words (rest ++ input) (words_stay_found front input words rest e) (omega (arith, ap length none))

-- ---- the fault of the first bad byte

-- there aren't more bytes than one too many
pub fault_stays : (fault : Fault) (progress : Progress) (input : List ℕ) (consumed : ℕ) → consumed + length input ≡ length (pending_of progress input)
    → consumed ≤ MOST_REQUEST_BYTES → length input ≤ MOST_REQUEST_BYTES - consumed + 1
    → Refuses fault (reading_words (pending_of progress input)) → Refuses fault (reading (pending_of progress input))
fault_stays fault progress input consumed counted within short refuses known =
    let bytes : List ℕ = pending_of progress input in
    let all : one_past_size bytes ≡ bytes = take_all (suc MOST_REQUEST_BYTES) bytes (omega arith) in
    bad_within bytes fault (ap reading_words all ∙ refuses known)

-- the request without the bytes behind the one too many
pub fault_in_front : (result fault : Fault) (progress : Progress) (input : List ℕ) (consumed len : ℕ) → consumed + length input ≡ length (pending_of progress input)
    → consumed ≤ MOST_REQUEST_BYTES → len ≡ MOST_REQUEST_BYTES - consumed + 1 → len < length input → reading_words (pending_of progress input) ≡ Bad fault
    → FaultOfFront result (reading_words (pending_of progress (take len input))) → Refuses result (reading (pending_of progress input))
fault_in_front result fault progress input consumed len counted within len_is long bad fault_of_front known =
    by_reading (reading_words (one_past_size bytes)) refl
  where
    bytes : List ℕ
    bytes = pending_of progress input

    front : List ℕ
    front = pending_of progress []

    few : length front ≡ consumed
    few = omega (arith, pending-len progress input)

    take_behind : (xs ys : List ℕ) (n k : ℕ) → n ≡ length xs + k → take n (xs ++ ys) ≡ xs ++ take k ys
    take_behind [] ys n k e = let same : n ≡ k = omega (arith, e) in ap (λ (m : ℕ). take m ys) same
    take_behind (x ∷ xs) ys zero k e = absurd (omega (arith, e))
    take_behind (x ∷ xs) ys (suc n) k e = ap (λ (t : List ℕ). x ∷ t) (take_behind xs ys n k (omega (arith, e)))

    one : one_past_size bytes ≡ pending_of progress (take len input)
    one =
        ap (take (suc MOST_REQUEST_BYTES)) (pending-parts progress input)
        ∙ take_behind front input (suc MOST_REQUEST_BYTES) len (omega (arith, few, len_is))
        ∙ sym (pending-parts progress (take len input))

    decided : too_many (reading_words (one_past_size bytes)) ≡ Bad result
    decided = ap (λ (t : List ℕ). too_many (reading_words t)) one ∙ fault_of_front known

    past : MOST_REQUEST_BYTES < length bytes
    past = omega (arith, len_is)

    by_reading : (s : Seen (List (List ℕ))) → reading_words (one_past_size bytes) ≡ s → reading bytes ≡ Bad result
    by_reading Wants e =
        wants_past bytes past e ∙ sym (ap too_many e) ∙ decided
    by_reading (Bad other) e = bad_within bytes other e ∙ sym (ap too_many e) ∙ decided
    by_reading (Found words rest) e = front_not_found progress input rest len words fault (ap reading_words (sym one) ∙ e) bad

pub front_kept_of : (progress next : Progress) (input front left later : List ℕ) (len : ℕ) → front ≡ take len input → len < length input → length left ≤ length front
    → pending_of next left ≡ pending_of progress front → later ≡ drop (len - length left) input → pending_of next later ≡ pending_of progress input
front_kept_of progress next input front left later len is within fewer kept dropped =
    front_kept progress next input left later len within (subst (λ (t : List ℕ). length left ≤ length t) is fewer) (kept ∙ ap (pending_of progress) is) dropped

-- ---- a request that came whole

-- so many bytes are its spelling
size_is : (pending rest : List ℕ) (words : List (List ℕ)) (consumed : ℕ) → pending ≡ request_spelling words ++ rest → consumed + length rest ≡ length pending
    → length (request_spelling words) ≡ consumed
size_is pending rest words consumed spelled counted = omega (arith, ap length spelled, length-append (request_spelling words) rest)

pub whole_is_found : (all : Bool) (seen : Seen (List (List ℕ))) (words : List (List ℕ)) (rest : List ℕ) → all ≡ true → TakesAll (Ok all) seen words rest → seen ≡ Found words rest
whole_is_found all seen words rest is takes = subst (λ (b : Bool). TakesAll (Ok b) seen words rest) is takes

-- it is handed out where it isn't too long
pub handed_out : (pending rest : List ℕ) (words frame : List (List ℕ)) (next : Progress) (consumed : ℕ) → reading_words pending ≡ Found words rest
    → consumed + length rest ≡ length pending → consumed ≤ MOST_REQUEST_BYTES → frame ≡ words → next ≡ Between → reading pending ≡ Found frame (pending_of next rest)
handed_out pending rest words frame next consumed takes counted short same between =
    let found = found_words_are pending words rest takes in
    let size = size_is pending rest words consumed found.1 counted in
    ap reading found.1 ∙ found_within words rest (record { each = found.0; all = omega arith })
    ∙ ap (λ (ws : List (List ℕ)). Found ws rest) (sym same) ∙ ap (λ (p : Progress). Found frame (pending_of p rest)) (sym between)

-- and is a fault where it is
pub whole_too_long : (fault : Fault) (pending rest : List ℕ) (words : List (List ℕ)) (consumed : ℕ) → reading_words pending ≡ Found words rest
    → consumed + length rest ≡ length pending → MOST_REQUEST_BYTES < consumed → fault ≡ TooLong → Refuses fault (reading pending)
whole_too_long fault pending rest words consumed takes counted long is known =
    let found = found_words_are pending words rest takes in
    let size = size_is pending rest words consumed found.1 counted in
    found_past pending words rest takes (omega arith) ∙ ap (λ (f : Fault). Bad f) (sym is)

-- ---- a request that didn't

pub part_wants : (all : Bool) (seen : Seen (List (List ℕ))) (words : List (List ℕ)) (rest : List ℕ) → all ≡ false → TakesAll (Ok all) seen words rest → seen ≡ Wants
part_wants all seen words rest is takes = subst (λ (b : Bool). TakesAll (Ok b) seen words rest) is takes

pub waits_for_more : (pending : List ℕ) (total : ℕ) → reading_words pending ≡ Wants → total ≡ length pending → total ≤ MOST_REQUEST_BYTES → reading pending ≡ Wants
waits_for_more pending total wants all short = wants_within pending wants (omega arith)

pub part_too_long : (fault : Fault) (pending : List ℕ) (total : ℕ) → reading_words pending ≡ Wants → total ≡ length pending → MOST_REQUEST_BYTES < total
    → fault ≡ TooLong → Refuses fault (reading pending)
part_too_long fault pending total wants all long is known = all_want_past pending (omega arith) wants ∙ ap (λ (f : Fault). Bad f) (sym is)

-- ---- none came whole

-- a fault ends the reading, and want of memory leaves the count
pub counted_still : (fault : Fault) (before : Progress) (input : List ℕ) (after : Progress) (consumed : ℕ) → partial_of after ≡ partial_of before → fault_of after ≡ remembered fault
    → consumed + length input ≡ length (pending_of before input) → (fault ≡ Memory → consumed ≤ MOST_REQUEST_BYTES + 1) → IsCountedOrBroken consumed after input
counted_still fault before input after consumed same remembers counted few =
    subst (λ (o : Option Fault). IfNone o (IsCounted consumed after input)) (sym remembers) (by_fault fault few)
  where
    by_fault : (f : Fault) → (f ≡ Memory → consumed ≤ MOST_REQUEST_BYTES + 1) → IfNone (remembered f) (IsCounted consumed after input)
    by_fault Memory few = record { counted = counted ∙ ap (λ (p : Option Partial). length (request_front p input)) (sym same); few = few refl }
    by_fault Protocol few = tt
    by_fault TooLong few = tt
