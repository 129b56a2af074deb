-- The steps of a reader of replies that are no arrays.
use Rattle.std.proofs.Common.{◌≡◌, ℕ, ℤ, pos, negsuc, zero, suc, ◌+◌, ◌-◌, ◌^◌, ◌<◌, ◌≤◌, ◌==◌, ◌&&◌, Bool, true, false, cond, List, [], ◌∷◌, ◌++◌, length, drop, take, Option, None, Some, Result, Ok, Err, refl, sym, ap, subst, ◌∙◌, arith, w64, ◌-ℤ◌, FitsSigned, to_z, of_z, ltb, add-zero}
use Rattle.std.specs.Prelude.{slice_get, decimal, IfOk, IfSome, IfNone, OnErr, IsTrue, nat_lt}
use Rattle.std.specs.Bool.{OnTrue, OnFalse}
use Rattle.std.proofs.lemmas.Int.{to_z-of_z, to_z_pos}
use Rattle.std.proofs.lemmas.Bool.{ne_eqb}
use Rattle.std.proofs.lemmas.List.{take-append-drop, take_all}
use Rattle.resp_values.specs.declared.array.Element.{Element}
use Rattle.resp_header.specs.declared.fault.Fault.{Fault}
use Rattle.resp_header.specs.declared.fault.Fault.TheVariants.{Protocol}
use Rattle.resp_header.specs.declared.header.Header.{Header}
use Rattle.resp_header.specs.Header.{Gives}
use Rattle.resp_values.specs.Line.{is_one_line, is_text_byte}
use Rattle.resp_header.specs.Reading.{Seen, Wants, Bad, Found, and_then, after_cr, number_at, header_at, header_onto}
use Rattle.resp2.specs.Reading.{body_at, line_end_at}
use Rattle.resp2.specs.Progress.{word_front}
use Rattle.resp2.specs.ReplyProgress.{StopsText, TakesElement, IsBegun, element_front}
use Rattle.resp2.specs.ReplyReading.{as_found, leaf_at, text_at, integer_at, simple_at, error_at, number_element_at, bulk_or_null_at, bytes_at, bytes_of, most_number}
use Rattle.resp2.specs.declared.leaf.Begun.{Begun}
use Rattle.resp2.specs.declared.reply_reader.TheConstants.{MOST_COUNT}
use Rattle.resp2.proofs.HeaderReading.{header_is}
use Rattle.resp2.proofs.HeaderRoundTrip.{header_again}
use Rattle.resp2.proofs.ReplyReaders.{decimal_begins}

-- ---- texts

text_more : (b : ℕ) (front rest : List ℕ) → as_found (λ text. b ∷ text) (line_end_at front rest) ≡ line_end_at (b ∷ front) rest
text_more b front [] = refl
text_more b front (c ∷ rest) = at_end (c == 13) (rest)
  where
    at_feed : (t : Bool) (bs : List ℕ) → as_found (λ text. b ∷ text) (cond t (Found front bs) (Bad Protocol)) ≡ cond t (Found (b ∷ front) bs) (Bad Protocol)
    at_feed true bs = refl
    at_feed false bs = refl

    behind_cr : (bs : List ℕ) → as_found (λ text. b ∷ text) (after_cr front bs) ≡ after_cr (b ∷ front) bs
    behind_cr [] = refl
    behind_cr (d ∷ bs) = at_feed (d == 10) bs

    at_end : (t : Bool) (bs : List ℕ) → as_found (λ text. b ∷ text) (cond t (after_cr front bs) (Bad Protocol)) ≡ cond t (after_cr (b ∷ front) bs) (Bad Protocol)
    at_end true bs = behind_cr bs
    at_end false bs = refl

text_stops : (rest : List ℕ) → StopsText rest → text_at rest ≡ line_end_at [] rest
text_stops [] stops = refl
text_stops (b ∷ rest) stops = by_cr (b == 13) refl
  where
    by_lf : (t : Bool) → b == 10 ≡ t → b == 13 ≡ false → cond t (Bad Protocol) (as_found (λ text. b ∷ text) (text_at rest)) ≡ Bad Protocol
    by_lf true is cr = refl
    by_lf false is cr = absurd (let text : is_text_byte b ≡ true = rw (cr, is) refl in let both : false ≡ true = sym stops ∙ text in cc)

    by_cr : (t : Bool) → b == 13 ≡ t → cond t (after_cr [] rest) (cond (b == 10) (Bad Protocol) (as_found (λ text. b ∷ text) (text_at rest))) ≡ cond t (after_cr [] rest) (Bad Protocol)
    by_cr true is = refl
    by_cr false is = by_lf (b == 10) refl is

both_true : (s t : Bool) → (s && t) ≡ true → (s ≡ true) × (t ≡ true)
both_true true t is = (refl, is)
both_true false t is = absurd cc

first_byte : (b : ℕ) (text : List ℕ) → IsTrue (is_one_line (b ∷ text)) → (is_text_byte b ≡ true) × IsTrue (is_one_line text)
first_byte b text is = both_true (is_text_byte b) (is_one_line text) is

-- a text and what doesn't go on with it
pub text_ends : (text rest : List ℕ) → IsTrue (is_one_line text) → StopsText rest → text_at (text ++ rest) ≡ line_end_at text rest
text_ends [] rest is stops = text_stops rest stops
text_ends (b ∷ text) rest is stops =
    let byte = first_byte b text is in
    by_cr (b == 13) refl byte.0 ∙ ap (as_found (λ others. b ∷ others)) (text_ends text rest byte.1 stops) ∙ text_more b text rest
  where
    by_lf : (t : Bool) → b == 10 ≡ t → is_text_byte b ≡ true → b == 13 ≡ false
        → cond t (Bad Protocol) (as_found (λ others. b ∷ others) (text_at (text ++ rest))) ≡ as_found (λ others. b ∷ others) (text_at (text ++ rest))
    by_lf false is byte cr = refl
    by_lf true is byte cr = absurd (let none : is_text_byte b ≡ false = rw (cr, is) refl in let both : true ≡ false = sym byte ∙ none in cc)

    by_cr : (t : Bool) → b == 13 ≡ t → is_text_byte b ≡ true
        → cond t (after_cr [] (text ++ rest)) (cond (b == 10) (Bad Protocol) (as_found (λ others. b ∷ others) (text_at (text ++ rest)))) ≡ as_found (λ others. b ∷ others) (text_at (text ++ rest))
    by_cr false is byte = by_lf (b == 10) refl byte is
    by_cr true is byte = absurd (let none : is_text_byte b ≡ false = rw is refl in let both : true ≡ false = sym byte ∙ none in cc)

-- behind a mark
pub line_ends : (bytes : List ℕ) (end : ℕ) → 0 < end → end ≤ length bytes → IsTrue (is_one_line (drop 1 (take end bytes))) → StopsText (drop end bytes)
    → text_at (drop 1 bytes) ≡ as_found (drop 1) (body_at end bytes)
line_ends [] end some within is stops = absurd (omega arith)
line_ends (b ∷ bs) zero some within is stops = absurd (omega arith)
line_ends (b ∷ bs) (suc end) some within is stops =
    ap text_at (sym (take-append-drop end bs)) ∙ text_ends (take end bs) (drop end bs) is stops ∙ behind_mark (drop end bs) ∙ ap (as_found (drop 1)) (sym long)
  where
    long : body_at (suc end) (b ∷ bs) ≡ line_end_at (b ∷ take end bs) (drop end bs)
    long = let enough : nat_lt (length (b ∷ bs)) (suc end) ≡ false = search (arith) in rw enough refl

    at_feed : (t : Bool) (rest : List ℕ) → cond t (Found (take end bs) rest) (Bad Protocol) ≡ as_found (drop 1) (cond t (Found (b ∷ take end bs) rest) (Bad Protocol))
    at_feed true rest = refl
    at_feed false rest = refl

    behind_cr : (rest : List ℕ) → after_cr (take end bs) rest ≡ as_found (drop 1) (after_cr (b ∷ take end bs) rest)
    behind_cr [] = refl
    behind_cr (d ∷ rest) = at_feed (d == 10) rest

    at_end : (t : Bool) (rest : List ℕ) → cond t (after_cr (take end bs) rest) (Bad Protocol) ≡ as_found (drop 1) (cond t (after_cr (b ∷ take end bs) rest) (Bad Protocol))
    at_end true rest = behind_cr rest
    at_end false rest = refl

    behind_mark : (rest : List ℕ) → line_end_at (take end bs) rest ≡ as_found (drop 1) (line_end_at (b ∷ take end bs) rest)
    behind_mark [] = refl
    behind_mark (c ∷ rest) = at_end (c == 13) rest

-- the same of the bytes that the code looked at
pub line_is : (bytes input : List ℕ) (end : ℕ) → bytes ≡ input → 0 < end → end ≤ length bytes → IsTrue (is_one_line (drop 1 (take end bytes))) → StopsText (drop end bytes)
    → text_at (drop 1 input) ≡ as_found (drop 1) (body_at end input)
line_is bytes input end same some within is stops =
    subst (λ (t : List ℕ). text_at (drop 1 t) ≡ as_found (drop 1) (body_at end t)) same (line_ends bytes end some within is stops)

pub line_fails : (bytes input : List ℕ) (end : ℕ) (fault : Fault) → text_at (drop 1 input) ≡ as_found (drop 1) (body_at end input) → bytes ≡ input → body_at end bytes ≡ Bad fault
    → text_at (drop 1 input) ≡ Bad fault
line_fails bytes input end fault line same bad =
    line ∙ ap (as_found (drop 1)) (ap (body_at end) (sym same) ∙ bad)

pub line_waits : (bytes input : List ℕ) (end : ℕ) (whole : Bool) → text_at (drop 1 input) ≡ as_found (drop 1) (body_at end input) → bytes ≡ input → whole ≡ false
    → OnFalse whole (body_at end bytes ≡ Wants) → text_at (drop 1 input) ≡ Wants
line_waits bytes input end whole line same is wants =
    line ∙ ap (as_found (drop 1)) (ap (body_at end) (sym same) ∙ subst (λ (b : Bool). OnFalse b (body_at end bytes ≡ Wants)) is wants)

pub line_found : (bytes input text rest : List ℕ) (end : ℕ) (whole : Bool) → text_at (drop 1 input) ≡ as_found (drop 1) (body_at end input) → bytes ≡ input → whole ≡ true
    → OnTrue whole (body_at end bytes ≡ Found (take end bytes) (drop (end + 2) bytes)) → 0 < end → text ≡ take (end - 1) (drop 1 input) → rest ≡ drop (end + 2) input
    → text_at (drop 1 input) ≡ Found text rest
line_found bytes input text rest end whole line same is found some text_is rest_is =
    let seen : body_at end bytes ≡ Found (take end bytes) (drop (end + 2) bytes) =
    subst (λ (b : Bool). OnTrue b (body_at end bytes ≡ Found (take end bytes) (drop (end + 2) bytes))) is found in
    let here : body_at end input ≡ Found (take end input) (drop (end + 2) input) = subst (λ (t : List ℕ). body_at end t ≡ Found (take end t) (drop (end + 2) t)) same seen in
    line ∙ ap (as_found (drop 1)) here ∙ ap (λ (t : List ℕ). Found t (drop (end + 2) input)) (behind_mark end input some ∙ sym text_is) ∙ ap (Found text) (sym rest_is)
  where
    behind_mark : (end : ℕ) (input : List ℕ) → 0 < end → drop 1 (take end input) ≡ take (end - 1) (drop 1 input)
    behind_mark zero input none = absurd (omega arith)
    behind_mark (suc end) [] some = let less : suc end - 1 ≡ end = omega arith in rw less (sym (take_all end [] (omega arith)))
    behind_mark (suc end) (b ∷ input) some = let less : suc end - 1 ≡ end = omega arith in rw less refl

-- ---- a bulk string whose header was taken

pub bytes_front : (len : ℕ) (input : List ℕ) → len ≤ MOST_COUNT → leaf_at (header_onto 36 len input) ≡ bytes_of len input
bytes_front len input short =
    let begins = decimal_begins len (omega (arith, short)) in
    let digit = begins.digit in
    let read : number_at Protocol 0 most_number (decimal len ++ (13 ∷ 10 ∷ input)) ≡ Found len input = header_again 36 Protocol 0 most_number len input (omega arith) (omega arith) (omega arith) short in
    no_minus (decimal len ++ (13 ∷ 10 ∷ input)) begins.first (begins.tail ++ (13 ∷ 10 ∷ input)) (λ is. omega (arith, is)) (ap (λ (t : List ℕ). t ++ (13 ∷ 10 ∷ input)) begins.is)
    ∙ ap (λ (seen : Seen ℕ). and_then seen bytes_of) read
  where
    no_minus : (text : List ℕ) (first : ℕ) (tail : List ℕ) → (first ≡ 45 → ⊥) → text ≡ first ∷ tail → bulk_or_null_at text ≡ bytes_at text
    no_minus [] first tail other is = absurd cc
    no_minus (b ∷ bs) first tail other is = let same : b ≡ first = cc in rw (ne_eqb b 45 (λ e. other (sym same ∙ e))) refl

pub takes_bytes : (result : Result (Option Element) Fault) (begun : Begun) (len : ℕ) (input rest : List ℕ) → begun.len ≡ Some len → len ≤ MOST_COUNT
    → TakesElement result (bytes_of len input) rest → TakesElement result (leaf_at (element_front begun input)) rest
takes_bytes result begun len input rest is short takes =
    let front : leaf_at (element_front begun input) ≡ bytes_of len input = ap (λ (o : Option ℕ). leaf_at (word_front o input)) is ∙ bytes_front len input short in
    subst (λ (seen : Seen (List Element)). TakesElement result seen rest) (sym front) takes

pub known_len : (begun : Begun) (input : List ℕ) (len : ℕ) → IsBegun begun input → begun.len ≡ Some len → len ≤ MOST_COUNT
known_len begun input len is some = subst (λ (o : Option ℕ). IfSome o (λ n. n ≤ MOST_COUNT)) some is.short

-- ---- integers

-- a minus stands behind the mark
pub negative_is : (bytes : List ℕ) → slice_get bytes 1 ≡ Some 45 → integer_at (drop 1 bytes) ≡ as_found (λ n. negsuc (n - 1)) (header_at 45 Protocol 1 (2 ^ 63) (drop 1 bytes))
negative_is [] is = absurd cc
negative_is (a ∷ []) is = absurd cc
negative_is (a ∷ b ∷ bytes) is = let minus : b ≡ 45 = cc in rw minus refl

-- another byte does
pub natural_is : (bytes : List ℕ) → slice_get bytes 0 ≡ Some 58 → (slice_get bytes 1 ≡ Some 45 → ⊥) → integer_at (drop 1 bytes) ≡ as_found pos (header_at 58 Protocol 0 (2 ^ 63 - 1) bytes)
natural_is [] is other = absurd cc
natural_is (a ∷ []) is other = let mark : a ≡ 58 = cc in rw mark refl
natural_is (a ∷ b ∷ bytes) is other =
    let mark : a ≡ 58 = cc in
    rw (mark, ne_eqb b 45 (λ same. other (ap (λ (c : ℕ). Some c) same))) refl

-- a number of 64 bits, as it is made of one that has no sign
pub record IsNegated (m : ℕ) : Type 0 where
  pub cast : FitsSigned w64 (pos m)
  pub minus : FitsSigned w64 (pos 0 -ℤ to_z w64 m)
  pub less : FitsSigned w64 (to_z w64 (of_z w64 (pos 0 -ℤ to_z w64 m)) -ℤ pos 1)
  pub value : to_z w64 (of_z w64 (to_z w64 (of_z w64 (pos 0 -ℤ to_z w64 m)) -ℤ pos 1)) ≡ negsuc m

is_negated : (m : ℕ) (z : ℤ) → FitsSigned w64 (pos m) → to_z w64 m ≡ pos m → pos 0 -ℤ pos m ≡ z → FitsSigned w64 z → z -ℤ pos 1 ≡ negsuc m → FitsSigned w64 (negsuc m) → IsNegated m
is_negated m z fits same minus negative less small =
    let first : pos 0 -ℤ to_z w64 m ≡ z = ap (λ (y : ℤ). pos 0 -ℤ y) same ∙ minus in
    let fits_first : FitsSigned w64 (pos 0 -ℤ to_z w64 m) = subst (FitsSigned w64) (sym first) negative in
    let back : to_z w64 (of_z w64 (pos 0 -ℤ to_z w64 m)) ≡ z = to_z-of_z w64 (pos 0 -ℤ to_z w64 m) fits_first ∙ first in
    let second : to_z w64 (of_z w64 (pos 0 -ℤ to_z w64 m)) -ℤ pos 1 ≡ negsuc m = ap (λ (y : ℤ). y -ℤ pos 1) back ∙ less in
    let fits_second : FitsSigned w64 (to_z w64 (of_z w64 (pos 0 -ℤ to_z w64 m)) -ℤ pos 1) = subst (FitsSigned w64) (sym second) small in
    record {
      cast = fits;
      minus = fits_first;
      less = fits_second;
      value = to_z-of_z w64 (to_z w64 (of_z w64 (pos 0 -ℤ to_z w64 m)) -ℤ pos 1) fits_second ∙ second;
    }

pub negated : (m : ℕ) → m < 2 ^ 63 → IsNegated m
negated zero small =
    is_negated 0 (pos 0) (record { sfits = omega arith }) (to_z_pos w64 0 small) refl (record { sfits = omega arith }) refl (record { sfits = omega arith })
negated (suc k) small =
    is_negated (suc k) (negsuc k) (record { sfits = small }) (to_z_pos w64 (suc k) small) (below k) (record { sfits = omega arith })
    (ap (λ (n : ℕ). negsuc (suc n)) (add-zero k)) (record { sfits = small })
  where
    below : (k : ℕ) → pos 0 -ℤ pos (suc k) ≡ negsuc k
    below k = let less : ltb 0 (suc k) ≡ true = search (arith) in let same : suc k - 1 ≡ k = omega arith in rw (less, same) refl

-- an integer that isn't, once its number is read
pub natural_found : (bytes : List ℕ) (found : Option Header) (header : Header) → slice_get bytes 0 ≡ Some 58 → (slice_get bytes 1 ≡ Some 45 → ⊥)
    → Gives bytes (Ok found) (header_at 58 Protocol 0 (2 ^ 63 - 1) bytes) → found ≡ Some header
    → FitsSigned w64 (pos header.number) × (integer_at (drop 1 bytes) ≡ Found (to_z w64 header.number) (drop header.len bytes)) × (header.len ≤ length bytes)
natural_found bytes found header mark other gives is =
    let read = subst (λ (o : Option Header). Gives bytes (Ok o) (header_at 58 Protocol 0 (2 ^ 63 - 1) bytes)) is gives in
    let bounds = header_is 58 Protocol 0 (2 ^ 63 - 1) bytes bytes found header (omega arith) (omega arith) (omega arith) refl gives is in
    let high = bounds.1 in
    let small : header.number < 2 ^ 63 = omega (arith, high) in (
      record { sfits = small },
      natural_is bytes mark other ∙ ap (as_found pos) read.0 ∙ ap (λ (z : ℤ). Found z (drop header.len bytes)) (sym (to_z_pos w64 header.number small)),
      read.1,
    )

-- a negative integer, once its number is read
pub negative_found : (bytes behind : List ℕ) (found : Option Header) (header : Header) → slice_get bytes 1 ≡ Some 45 → behind ≡ drop 1 bytes
    → Gives behind (Ok found) (header_at 45 Protocol 1 (2 ^ 63) behind) → found ≡ Some header
    → (integer_at (drop 1 bytes) ≡ Found (to_z w64 (of_z w64 (to_z w64 (of_z w64 (pos 0 -ℤ to_z w64 (header.number - 1))) -ℤ pos 1))) (drop (header.len + 1) bytes))
    × (header.len + 1 ≤ length bytes)
negative_found bytes behind found header minus same gives is =
    let read = subst (λ (o : Option Header). Gives behind (Ok o) (header_at 45 Protocol 1 (2 ^ 63) behind)) is gives in
    let front = subst (λ (t : List ℕ). Gives t (Ok (Some header)) (header_at 45 Protocol 1 (2 ^ 63) t)) same read in
    let bounds = header_is 45 Protocol 1 (2 ^ 63) behind behind found header (omega arith) (omega arith) (omega arith) refl gives is in
    let low = bounds.0 in
    let high = bounds.1 in
    let value = (negated (header.number - 1) (omega (arith, low, high))).value in
    (negative_is bytes minus ∙ ap (as_found (λ n. negsuc (n - 1))) front.0 ∙ found_at bytes header.number header.len minus value, within bytes header.len minus front.1)
  where
    found_at : (bytes : List ℕ) (n len : ℕ) → slice_get bytes 1 ≡ Some 45 → to_z w64 (of_z w64 (to_z w64 (of_z w64 (pos 0 -ℤ to_z w64 (n - 1))) -ℤ pos 1)) ≡ negsuc (n - 1)
        → Found (negsuc (n - 1)) (drop len (drop 1 bytes)) ≡ Found (to_z w64 (of_z w64 (to_z w64 (of_z w64 (pos 0 -ℤ to_z w64 (n - 1))) -ℤ pos 1))) (drop (len + 1) bytes)
    found_at [] n len minus value = absurd cc
    found_at (a ∷ bytes) n len minus value =
        ap (λ (z : ℤ). Found z (drop len bytes)) (sym value)
        ∙ ap (λ (k : ℕ). Found (to_z w64 (of_z w64 (to_z w64 (of_z w64 (pos 0 -ℤ to_z w64 (n - 1))) -ℤ pos 1))) (drop k (a ∷ bytes))) (one_more len)
      where
        one_more : (n : ℕ) → suc n ≡ n + 1
        one_more n = omega arith

    within : (bytes : List ℕ) (len : ℕ) → slice_get bytes 1 ≡ Some 45 → len ≤ length (drop 1 bytes) → len + 1 ≤ length bytes
    within [] len minus is = absurd cc
    within (a ∷ bytes) len minus is = omega (arith, is)

-- ---- one mark or another

pub simple_marked : (bytes : List ℕ) → slice_get bytes 0 ≡ Some 43 → leaf_at bytes ≡ simple_at (drop 1 bytes)
simple_marked [] is = absurd cc
simple_marked (b ∷ bytes) is = let mark : b ≡ 43 = cc in rw mark refl

pub error_marked : (bytes : List ℕ) → slice_get bytes 0 ≡ Some 45 → leaf_at bytes ≡ error_at (drop 1 bytes)
error_marked [] is = absurd cc
error_marked (b ∷ bytes) is = let mark : b ≡ 45 = cc in rw mark refl

pub number_marked : (bytes : List ℕ) → slice_get bytes 0 ≡ Some 58 → leaf_at bytes ≡ number_element_at (drop 1 bytes)
number_marked [] is = absurd cc
number_marked (b ∷ bytes) is = let mark : b ≡ 58 = cc in rw mark refl

pub bulk_marked : (bytes : List ℕ) → slice_get bytes 0 ≡ Some 36 → leaf_at bytes ≡ bulk_or_null_at (drop 1 bytes)
bulk_marked [] is = absurd cc
bulk_marked (b ∷ bytes) is = let mark : b ≡ 36 = cc in rw mark refl

-- ---- what was taken stands in front

pub waits_in_front : {X : Type 0} (result : Result (Option X) Fault) (new old input : List ℕ) → IfOk result (λ found. IfNone found (new ≡ old)) → old ≡ input
    → IfOk result (λ found. IfNone found (new ≡ input))
waits_in_front (Ok None) new old input kept same = kept ∙ same
waits_in_front (Ok (Some x)) new old input kept same = tt
waits_in_front (Err fault) new old input kept same = tt

pub fails_in_front : {X : Type 0} (result : Result (Option X) Fault) (new old input : List ℕ) → OnErr result (new ≡ old) → old ≡ input → OnErr result (new ≡ input)
fails_in_front (Ok found) new old input kept same = tt
fails_in_front (Err fault) new old input kept same = kept ∙ same
