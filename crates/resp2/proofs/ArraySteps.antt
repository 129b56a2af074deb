-- What a step leaves of an array that is read.
use Rattle.std.proofs.Common.{◌≡◌, ◌≢◌, ℕ, ◌+◌, ◌-◌, ◌<◌, ◌≤◌, true, false, List, [], ◌∷◌, ◌++◌, length, drop, take, Option, None, Some, Ok, refl, sym, ap, subst, ◌∙◌, append_assoc, append-nil, arith}
use Rattle.std.specs.Prelude.{IsTrue, IfSome}
use Rattle.std.specs.List.{flat_map}
use Rattle.std.proofs.lemmas.Bool.{ne_eqb}
use Rattle.std.proofs.lemmas.Grind.{flat_map-append}
use Rattle.std.proofs.lemmas.List.{length-append}
use Rattle.resp_values.specs.Array.{is_array}
use Rattle.resp_header.specs.Header.{Gives}
use Rattle.resp2.specs.Progress.{Refuses, word_front}
use Rattle.resp_header.specs.Reading.{Seen, Wants, Bad, Found, and_then, header_at}
use Rattle.resp_values.specs.Reply.{element_spelling}
use Rattle.resp2.specs.ReplyProgress.{ArePart, HasHeader, IsBegun, IsReading, TakesElement, array_front, begins_array, element_front, reading_on, to_come}
use Rattle.resp2.specs.ReplyReading.{leaf_at, most_number, reply_at}
use Rattle.resp_values.specs.Line.{is_one_line}
use Rattle.resp_values.specs.declared.array.Element.{Element}
use Rattle.resp_values.specs.declared.array.Element.TheVariants as element
use Rattle.resp2.specs.declared.array_part.ArrayPart.{ArrayPart}
use Rattle.resp_header.specs.declared.fault.Fault.{Fault}
use Rattle.resp_header.specs.declared.fault.Fault.TheVariants.{Protocol}
use Rattle.resp_header.specs.declared.header.Header.{Header}
use Rattle.resp2.specs.declared.leaf.Begun.{Begun}
use Rattle.resp2.specs.declared.reply_reader.TheConstants.{MOST_DEPTH, MOST_COUNT}
use Rattle.resp2.proofs.HeaderReading.{header_is}
use Rattle.resp2.proofs.HeaderRoundTrip.{header_again}
use Rattle.resp2.proofs.Readers.{Means}
use Rattle.resp2.proofs.ReplyLimits.{headed_array}
use Rattle.resp2.proofs.ReplyReaders.{IsLeaf, IsReplyAt, all_spelled, leaf_elsewhere, leaf_reader, reply_reader}
use Rattle.resp2.proofs.ReplySteps.{all_over, array_begins, array_next, array_over, behind, behind_both, deep_next, leaf_next}
use Rattle.resp2.proofs.Spellings.{header_spelling-onto}

-- ---- elements

pub pushed_some : (elements : List Element) (element : Element) → elements ++ element ∷ [] ≢ []
pushed_some [] element is = cc
pushed_some (x ∷ elements) element is = cc

header_push : (elements : List Element) (last : Element) → elements ≢ [] → HasHeader elements → HasHeader (elements ++ last ∷ [])
header_push [] last some header = absurd (some refl)
header_push (element.Array len ∷ elements) last some header = tt
header_push (element.Simple text ∷ elements) last some header = absurd header
header_push (element.Error text ∷ elements) last some header = absurd header
header_push (element.Integer number ∷ elements) last some header = absurd header
header_push (element.Bulk bytes ∷ elements) last some header = absurd header
header_push (element.Null ∷ elements) last some header = absurd header

pub front_push : (elements : List Element) (element : Element) (bytes : List ℕ) → array_front (elements ++ element ∷ []) bytes ≡ array_front elements (element_spelling element ++ bytes)
front_push elements element bytes =
    ap (λ (t : List ℕ). t ++ bytes) (flat_map-append element_spelling elements (element ∷ [])) ∙ append_assoc (flat_map element_spelling elements) (element_spelling element ++ []) bytes
    ∙ ap (λ (t : List ℕ). flat_map element_spelling elements ++ t) (append_assoc (element_spelling element) [] bytes)

on_some : (elements : List Element) (left : ℕ) (outer bytes : List ℕ) → elements ≢ [] → reading_on elements left outer bytes ≡ behind elements (to_come left outer bytes)
on_some [] left outer bytes some = absurd (some refl)
on_some (x ∷ elements) left outer bytes some = refl

-- what the next element says, the reply says
pub decides : (elements : List Element) (left : ℕ) (outer bytes : List ℕ) → ArePart elements left outer → elements ≢ [] → reply_at MOST_DEPTH (array_front elements bytes) ≡ behind elements (to_come left outer bytes)
decides elements left outer bytes are some = are.goes_on bytes ∙ on_some elements left outer bytes some

pub waits_too : (elements : List Element) (left : ℕ) (outer bytes : List ℕ) → ArePart elements left outer → elements ≢ [] → to_come left outer bytes ≡ Wants → reply_at MOST_DEPTH (array_front elements bytes) ≡ Wants
waits_too elements left outer bytes are some wants = decides elements left outer bytes are some ∙ ap (behind elements) wants

pub fails_too : (fault : Fault) (elements : List Element) (left : ℕ) (outer bytes : List ℕ) → ArePart elements left outer → elements ≢ [] → Refuses fault (to_come left outer bytes)
    → Refuses fault (reply_at MOST_DEPTH (array_front elements bytes))
fails_too fault elements left outer bytes are some refuses known = decides elements left outer bytes are some ∙ ap (behind elements) (refuses known)

-- one element more was taken
pushed : (elements : List Element) (element : Element) (left next : ℕ) (outer others : List ℕ) → ArePart elements left outer → elements ≢ [] → length others < MOST_DEPTH
    → ((bytes : List ℕ) → to_come left outer (element_spelling element ++ bytes) ≡ behind (element ∷ []) (to_come next others bytes))
    → ArePart (elements ++ element ∷ []) next others
pushed elements element left next outer others are some shallow step = record {
  shallow = shallow;
  idle = λ none. absurd (pushed_some elements element none);
  header = header_push elements element some are.header;
  goes_on = λ bytes.
      ap (λ (t : List ℕ). reply_at MOST_DEPTH t) (front_push elements element bytes)
      ∙ decides elements left outer (element_spelling element ++ bytes) are some
      ∙ ap (behind elements) (step bytes)
      ∙ behind_both elements (element ∷ []) (to_come next others bytes)
      ∙ sym (on_some (elements ++ element ∷ []) next others bytes (pushed_some elements element));
}

-- ---- an element that is no array

leaf_is : (front rest : List ℕ) (element : Element) → leaf_at front ≡ Found (element ∷ []) rest → IsLeaf (element ∷ []) × (front ≡ element_spelling element ++ rest)
leaf_is front rest element found =
    let means : IsLeaf (element ∷ []) × (front ≡ all_spelled (element ∷ []) ++ rest) = subst (Means IsLeaf all_spelled front) found (leaf_reader.means front) in
    (means.0, means.1 ∙ append_assoc (element_spelling element) [] rest)

no_array : (element : Element) (bytes : List ℕ) → IsLeaf (element ∷ []) → begins_array (element_spelling element ++ bytes) ≡ false
no_array element bytes is =
    let first = leaf_elsewhere (element ∷ []) is in
    let spelled : element_spelling element ++ bytes ≡ first.0 ∷ (first.1 ++ bytes) =
    ap (λ (t : List ℕ). t ++ bytes) (sym (append-nil (element_spelling element)) ∙ first.3) in
    ap begins_array spelled ∙ ne_eqb first.0 42 first.2

leaf_steps : (element : Element) (left : ℕ) (outer bytes : List ℕ) → IsLeaf (element ∷ []) → 0 < left
    → to_come left outer (element_spelling element ++ bytes) ≡ behind (element ∷ []) (to_come (left - 1) outer bytes)
leaf_steps element left outer bytes is some =
    leaf_next left outer (element_spelling element ++ bytes) (Found (element ∷ []) bytes) some (no_array element bytes is)
    (ap leaf_at (sym (append_assoc (element_spelling element) [] bytes)) ∙ leaf_reader.again (element ∷ []) bytes is)

pub record Taken (elements : List Element) (left : ℕ) (outer : List ℕ) (element : Element) (next : ℕ) (others front rest : List ℕ) : Type 0 where
  pub part : ArePart (elements ++ element ∷ []) next others
  pub kept : array_front (elements ++ element ∷ []) rest ≡ array_front elements front
  pub shrinks : length rest < length front

spelled_some : (element : Element) → 0 < length (element_spelling element)
spelled_some (element.Simple text) = omega arith
spelled_some (element.Error text) = omega arith
spelled_some (element.Integer number) = omega arith
spelled_some (element.Bulk bytes) = omega arith
spelled_some element.Null = omega arith
spelled_some (element.Array len) = omega arith

taken : (elements : List Element) (left : ℕ) (outer : List ℕ) (element : Element) (next : ℕ) (others front rest : List ℕ) → ArePart (elements ++ element ∷ []) next others
    → front ≡ element_spelling element ++ rest → Taken elements left outer element next others front rest
taken elements left outer element next others front rest part spelled = record {
  part = part;
  kept = front_push elements element rest ∙ ap (array_front elements) (sym spelled);
  shrinks = (let some = spelled_some element in omega (arith, some, ap length spelled, length-append (element_spelling element) rest));
}

pub leaf_taken : (elements : List Element) (left : ℕ) (outer : List ℕ) (element : Element) (front rest : List ℕ) → ArePart elements left outer → elements ≢ [] → 0 < left
    → leaf_at front ≡ Found (element ∷ []) rest → Taken elements left outer element (left - 1) outer front rest
leaf_taken elements left outer element front rest are some more found =
    let is = leaf_is front rest element found in
    taken elements left outer element (left - 1) outer front rest
    (pushed elements element left (left - 1) outer outer are some are.shallow (λ bytes. leaf_steps element left outer bytes is.0 more)) is.1

pub leaf_waits : (left : ℕ) (outer front : List ℕ) → 0 < left → begins_array front ≡ false → leaf_at front ≡ Wants → to_come left outer front ≡ Wants
leaf_waits left outer front some other wants = leaf_next left outer front Wants some other wants

pub leaf_fails : (fault : Fault) (left : ℕ) (outer front : List ℕ) → 0 < left → begins_array front ≡ false → Refuses fault (leaf_at front) → Refuses fault (to_come left outer front)
leaf_fails fault left outer front some other refuses known = leaf_next left outer front (Bad fault) some other (refuses known)

-- what is no header
no_header_of : (first : Element) → IsLeaf (first ∷ []) → HasHeader (first ∷ []) → ⊥
no_header_of (element.Array len) is header =
    let first = leaf_elsewhere (element.Array len ∷ []) is in
    let mark : 42 ≡ first.0 = cc in
    first.2 (sym mark)
no_header_of (element.Simple text) is header = header
no_header_of (element.Error text) is header = header
no_header_of (element.Integer number) is header = header
no_header_of (element.Bulk bytes) is header = header
no_header_of element.Null is header = header

pub no_header : (front rest : List ℕ) (first : Element) → leaf_at front ≡ Found (first ∷ []) rest → ¬ HasHeader (first ∷ [])
no_header front rest first found header = no_header_of first (leaf_is front rest first found).0 header

-- ---- the header of an array

count_is : (bytes front : List ℕ) (found : Option Header) (header : Header) → bytes ≡ front → Gives bytes (Ok found) (header_at 42 Protocol 0 MOST_COUNT bytes) → found ≡ Some header
    → (header.number ≤ MOST_COUNT) × (front ≡ element_spelling (element.Array header.number) ++ drop header.len front)
count_is bytes front found header same gives is =
    let read = header_is 42 Protocol 0 MOST_COUNT bytes front found header (omega arith) (omega arith) (omega arith) same gives is in
    (read.1, read.2 ∙ sym (header_spelling-onto 42 header.number (drop header.len front)))

header_read : (n : ℕ) (bytes : List ℕ) → n ≤ MOST_COUNT → header_at 42 Protocol 0 most_number (element_spelling (element.Array n) ++ bytes) ≡ Found n bytes
header_read n bytes short =
    ap (header_at 42 Protocol 0 most_number) (header_spelling-onto 42 n bytes) ∙ header_again 42 Protocol 0 most_number n bytes (omega arith) (omega arith) (omega arith) short

inner_steps : (n left : ℕ) (outer bytes : List ℕ) → n ≤ MOST_COUNT → 0 < left → length outer + 1 < MOST_DEPTH
    → to_come left outer (element_spelling (element.Array n) ++ bytes) ≡ behind (element.Array n ∷ []) (to_come n (outer ++ (left - 1) ∷ []) bytes)
inner_steps n left outer bytes short some shallow =
    array_next left outer (element_spelling (element.Array n) ++ bytes) some shallow refl
    ∙ ap (λ (seen : Seen ℕ). and_then seen (λ m rest. behind (element.Array m ∷ []) (to_come m (outer ++ (left - 1) ∷ []) rest))) (header_read n bytes short)

pub inner_taken : (elements : List Element) (left : ℕ) (outer bytes front : List ℕ) (found : Option Header) (header : Header) → ArePart elements left outer → elements ≢ [] → 0 < left
    → length outer + 1 < MOST_DEPTH → bytes ≡ front → Gives bytes (Ok found) (header_at 42 Protocol 0 MOST_COUNT bytes) → found ≡ Some header
    → Taken elements left outer (element.Array header.number) header.number (outer ++ (left - 1) ∷ []) front (drop header.len front)
inner_taken elements left outer bytes front found header are some more shallow same gives is =
    let count = count_is bytes front found header same gives is in
    taken elements left outer (element.Array header.number) header.number (outer ++ (left - 1) ∷ []) front (drop header.len front)
    (pushed elements (element.Array header.number) left header.number outer (outer ++ (left - 1) ∷ []) are some (omega (arith, length-append outer ((left - 1) ∷ [])))
    (λ rest. inner_steps header.number left outer rest count.0 more shallow)) count.1

pub inner_waits : (left : ℕ) (outer bytes front : List ℕ) (found : Option Header) → 0 < left → length outer + 1 < MOST_DEPTH → begins_array front ≡ true → bytes ≡ front
    → Gives bytes (Ok found) (header_at 42 Protocol 0 MOST_COUNT bytes) → found ≡ None → to_come left outer front ≡ Wants
inner_waits left outer bytes front found some shallow begins same gives is =
    let wants : header_at 42 Protocol 0 MOST_COUNT bytes ≡ Wants = subst (λ (o : Option Header). Gives bytes (Ok o) (header_at 42 Protocol 0 MOST_COUNT bytes)) is gives in
    array_next left outer front some shallow begins
    ∙ ap (λ (seen : Seen ℕ). and_then seen (λ n rest. behind (element.Array n ∷ []) (to_come n (outer ++ (left - 1) ∷ []) rest)))
    (ap (header_at 42 Protocol 0 MOST_COUNT) (sym same) ∙ wants)

pub inner_fails : (fault : Fault) (left : ℕ) (outer bytes front : List ℕ) → 0 < left → length outer + 1 < MOST_DEPTH → begins_array front ≡ true → bytes ≡ front
    → header_at 42 Protocol 0 MOST_COUNT bytes ≡ Bad fault → to_come left outer front ≡ Bad fault
inner_fails fault left outer bytes front some shallow begins same bad =
    array_next left outer front some shallow begins
    ∙ ap (λ (seen : Seen ℕ). and_then seen (λ n rest. behind (element.Array n ∷ []) (to_come n (outer ++ (left - 1) ∷ []) rest)))
    (ap (header_at 42 Protocol 0 MOST_COUNT) (sym same) ∙ bad)

pub deep_fails : (left : ℕ) (outer front : List ℕ) → 0 < left → length outer + 1 ≡ MOST_DEPTH → begins_array front ≡ true → to_come left outer front ≡ Bad Protocol
deep_fails left outer front some deep begins = deep_next left outer front some deep begins

-- ---- the first header

pub first_taken : (outer bytes front : List ℕ) (found : Option Header) (header : Header) → outer ≡ [] → bytes ≡ front → Gives bytes (Ok found) (header_at 42 Protocol 0 MOST_COUNT bytes) → found ≡ Some header
    → ArePart (element.Array header.number ∷ []) header.number outer × (array_front (element.Array header.number ∷ []) (drop header.len front) ≡ front)
first_taken outer bytes front found header none same gives is =
    let count = count_is bytes front found header same gives is in
    let n : ℕ = header.number in (
      subst (λ (ns : List ℕ). ArePart (element.Array n ∷ []) n ns) (sym none)
          (record {
            shallow = omega arith;
            idle = λ e. refl;
            header = tt;
            goes_on = λ rest.
                ap (λ (t : List ℕ). reply_at MOST_DEPTH t) (append_assoc (element_spelling (element.Array n)) [] rest)
                ∙ array_begins (element_spelling (element.Array n) ++ rest) refl
                ∙ ap (λ (seen : Seen ℕ). and_then seen (λ m last. behind (element.Array m ∷ []) (to_come m [] last))) (header_read n rest count.0);
          }),
      append_assoc (element_spelling (element.Array n)) [] (drop header.len front) ∙ sym count.1,
    )

pub first_waits : (bytes front : List ℕ) (found : Option Header) → begins_array front ≡ true → bytes ≡ front → Gives bytes (Ok found) (header_at 42 Protocol 0 MOST_COUNT bytes) → found ≡ None
    → reply_at MOST_DEPTH front ≡ Wants
first_waits bytes front found begins same gives is =
    let wants : header_at 42 Protocol 0 MOST_COUNT bytes ≡ Wants = subst (λ (o : Option Header). Gives bytes (Ok o) (header_at 42 Protocol 0 MOST_COUNT bytes)) is gives in
    array_begins front begins
    ∙ ap (λ (seen : Seen ℕ). and_then seen (λ n rest. behind (element.Array n ∷ []) (to_come n [] rest))) (ap (header_at 42 Protocol 0 MOST_COUNT) (sym same) ∙ wants)

pub first_fails : (fault : Fault) (bytes front : List ℕ) → begins_array front ≡ true → bytes ≡ front → header_at 42 Protocol 0 MOST_COUNT bytes ≡ Bad fault → reply_at MOST_DEPTH front ≡ Bad fault
first_fails fault bytes front begins same bad =
    array_begins front begins
    ∙ ap (λ (seen : Seen ℕ). and_then seen (λ n rest. behind (element.Array n ∷ []) (to_come n [] rest))) (ap (header_at 42 Protocol 0 MOST_COUNT) (sym same) ∙ bad)

-- ---- the ends of arrays

pub array_left : (elements : List Element) (left next : ℕ) (outer others : List ℕ) → ArePart elements left outer → elements ≢ [] → left ≡ 0 → outer ≡ others ++ next ∷ [] → ArePart elements next others
array_left elements left next outer others are some none grown = record {
  shallow = (let deep = are.shallow in omega (arith, deep, ap length grown, length-append others (next ∷ [])));
  idle = λ e. absurd (some e);
  header = are.header;
  goes_on = λ bytes.
      decides elements left outer bytes are some
      ∙ ap (λ (k : ℕ). behind elements (to_come k outer bytes)) none
      ∙ ap (λ (ns : List ℕ). behind elements (to_come 0 ns bytes)) grown
      ∙ ap (behind elements) (array_over others next bytes (subst (λ (ns : List ℕ). length ns < MOST_DEPTH) grown are.shallow))
      ∙ sym (on_some elements next others bytes some);
}

-- all came
pub whole_found : (elements : List Element) (left : ℕ) (outer bytes : List ℕ) → ArePart elements left outer → elements ≢ [] → left ≡ 0 → outer ≡ [] → reply_at MOST_DEPTH (array_front elements bytes) ≡ Found elements bytes
whole_found elements left outer bytes are some none all =
    decides elements left outer bytes are some
    ∙ ap (λ (k : ℕ). behind elements (to_come k outer bytes)) none
    ∙ ap (λ (ns : List ℕ). behind elements (to_come 0 ns bytes)) all
    ∙ ap (behind elements) (all_over bytes)
    ∙ ap (λ (t : List Element). Found t bytes) (append-nil elements)

some_length : (elements : List Element) → elements ≢ [] → 0 < length elements
some_length [] some = absurd (some refl)
some_length (x ∷ elements) some = omega arith

pub whole_array : (elements : List Element) (left : ℕ) (outer : List ℕ) → ArePart elements left outer → elements ≢ [] → left ≡ 0 → outer ≡ [] → IsTrue (is_array elements)
whole_array elements left outer are some none all =
    let means : IsReplyAt MOST_DEPTH elements × (array_front elements [] ≡ all_spelled elements ++ []) =
    subst (Means (IsReplyAt MOST_DEPTH) all_spelled (array_front elements [])) (whole_found elements left outer [] are some none all) ((reply_reader MOST_DEPTH).means (array_front elements [])) in
    headed_array MOST_DEPTH elements means.0 are.header (some_length elements some)

-- no array was begun
pub none_begun : (left : ℕ) → ArePart [] left []
none_begun left = record { shallow = omega arith; idle = λ e. refl; header = tt; goes_on = λ bytes. refl }

-- ---- what a step leaves

begins_none : (begun : Begun) (input : List ℕ) (len : Option ℕ) → begun.len ≡ len → begins_array (word_front len input) ≡ true → len ≡ None
begins_none begun input None is begins = refl
begins_none begun input (Some len) is begins = absurd cc

-- where an array begins, no length was read
pub none_in_front : (begun : Begun) (input : List ℕ) → begins_array (element_front begun input) ≡ true → begun.len ≡ None
none_in_front begun input begins = begins_none begun input begun.len refl begins

pub front_is : (begun : Begun) (input : List ℕ) → begun.len ≡ None → element_front begun input ≡ input
front_is begun input none = ap (λ (o : Option ℕ). word_front o input) none

pub fresh : (begun : Begun) (input : List ℕ) → begun.len ≡ None → begun.scanned ≡ 0 → IsBegun begun input
fresh begun input none start = record {
  short = subst (λ (o : Option ℕ). IfSome o (λ len. len ≤ MOST_COUNT)) (sym none) tt;
  within = omega (arith, start);
  text = ap (λ (n : ℕ). is_one_line (drop 1 (take n input))) start;
}

pub reading_after : (part : ArrayPart) (begun : Begun) (input : List ℕ) (elements : List Element) (next : ℕ) (others : List ℕ) → ArePart elements next others
    → part.elements.items ≡ elements → part.left ≡ next → part.outer.items ≡ others → begun.len ≡ None → IsBegun begun input → IsReading part begun input
reading_after part begun input elements next others are same left outer none is = record {
  part = subst (λ (ns : List ℕ). ArePart part.elements.items part.left ns) (sym outer)
      (subst (λ (n : ℕ). ArePart part.elements.items n others) (sym left) (subst (λ (es : List Element). ArePart es next others) (sym same) are));
  begun = is;
  fits = λ _ _. none;
}

pub kept_after : (items elements front_elements : List Element) (begun : Begun) (input rest front : List ℕ) → array_front elements rest ≡ array_front front_elements front → items ≡ elements → begun.len ≡ None → input ≡ rest
    → array_front items (element_front begun input) ≡ array_front front_elements front
kept_after items elements front_elements begun input rest front kept same none is =
    ap (λ (es : List Element). array_front es (element_front begun input)) same ∙ ap (array_front elements) (front_is begun input none ∙ is) ∙ kept

pub shrinks_after : (begun : Begun) (input rest front : List ℕ) → length rest < length front → begun.len ≡ None → input ≡ rest → length (element_front begun input) < length front
shrinks_after begun input rest front shorter none is = subst (λ (t : List ℕ). length t < length front) (sym (front_is begun input none ∙ is)) shorter

pub element_found : (found : Option Element) (last : Element) (seen : Seen (List Element)) (rest : List ℕ) → found ≡ Some last → TakesElement (Ok found) seen rest → seen ≡ Found (last ∷ []) rest
element_found found last seen rest is takes = subst (λ (o : Option Element). TakesElement (Ok o) seen rest) is takes

pub element_waits : (found : Option Element) (seen : Seen (List Element)) (rest : List ℕ) → found ≡ None → TakesElement (Ok found) seen rest → seen ≡ Wants
element_waits found seen rest is takes = subst (λ (o : Option Element). TakesElement (Ok o) seen rest) is takes

pub next_none : (found : Option Element) (last : Element) (len : Option ℕ) → found ≡ Some last → IfSome found (λ _. len ≡ None) → len ≡ None
next_none found last len is next = subst (λ (o : Option Element). IfSome o (λ _. len ≡ None)) is next
