-- What the reading of bytes says of replies, and of the bytes that may come.
use Rattle.std.proofs.Common.{◌≡◌, ℕ, zero, suc, pos, negsuc, ◌+◌, ◌*◌, ◌-◌, ◌^◌, ◌≤◌, ◌==◌, Bool, if◌then◌else◌, ltb, eqb, ◌||◌, List, [], ◌∷◌, ◌++◌, length, map, take, drop, refl, sym, ap, subst, ◌∙◌, append-nil, arith}
use Rattle.std.specs.Prelude.{All, IsTrue, IfSome, IfNone, Option, None, Some, Ok}
use Rattle.std.specs.List.{AllByRecursion, flat_map}
use Rattle.resp_values.specs.Array.{depth_of}
use Rattle.resp_header.specs.Reading.{Seen, Wants, Bad, Found, MatchSeen, and_then, after_cr, digits_at, number_at}
use Rattle.resp2.specs.Reading.{line_end_at, body_at}
use Rattle.resp2.specs.Reader.{ReaderState}
use Rattle.resp_values.specs.Reply.{elements_of, is_reply, reply_spelling}
use Rattle.resp2.specs.ReplyReader.{ReplyKeepsLimits, ElementKeepsLimits, replies_spelling, IsReplyBeginning, HasFirstBadReplyByte, HasNoReply, IsUnfinishedReply, HandsOutReply, WaitsForReply, BreaksReply, FailsReplyBy}
use Rattle.resp2.specs.Progress.{Refuses}
use Rattle.resp2.specs.ReplyProgress.{TakesReply, is_lasting}
use Rattle.resp2.specs.ReplyReading.{as_found, marked, or_else, times, most_number, text_at, integer_at, leaf_at, array_by, reply_at, simple_at, error_at, number_element_at, bulk_or_null_at, null_at, bytes_at, bytes_of, line_feed_at}
use Rattle.resp_values.specs.declared.array.Element.{Element}
use Rattle.resp_values.specs.declared.array.Element.TheVariants as element
use Rattle.resp_header.specs.declared.fault.Fault.{Fault}
use Rattle.resp_header.specs.declared.fault.Fault.TheVariants.{Protocol, TooLong, Memory}
use Rattle.resp_values.specs.declared.reply.Reply.{Reply}
use Rattle.resp_values.specs.declared.reply.Reply.TheVariants as replies
use Rattle.resp2.specs.declared.reply_reader.TheConstants.{MOST_DEPTH}
use Rattle.resp2.proofs.HeaderReading.{by_test}
use Rattle.resp2.proofs.Readers.{IsReader, EndsIn, Means, bad_begins_nothing, found_again}
use Rattle.resp2.proofs.ReplyLimits.{limits_read, reads_limits, spelled_reply}
use Rattle.resp2.proofs.ReplyReaders.{IsReplyAt, all_spelled, reply_reader}
use Rattle.resp2.proofs.ShortestBad.{Stays, shortest_bad}
use Rattle.resp_values.proofs.Each.{each_by_recursion, each_by_index}

-- ---- the one fault

-- whatever is wrong breaks the protocol
abbrev BreaksAlone : {X : Type 0} → Seen X → Type 0
BreaksAlone seen = MatchSeen seen (Unit {0}) (λ fault. fault ≡ Protocol) (λ _ _. Unit {0})

module _ {X Y : Type 0} (next : X → List ℕ → Seen Y) (each : (x : X) (rest : List ℕ) → BreaksAlone (next x rest)) where
  then_breaks : (seen : Seen X) → BreaksAlone seen → BreaksAlone (and_then seen next)
  then_breaks Wants is = tt
  then_breaks (Bad fault) is = is
  then_breaks (Found x rest) is = each x rest

found_breaks : {X Y : Type 0} (f : X → Y) (seen : Seen X) → BreaksAlone seen → BreaksAlone (as_found f seen)
found_breaks f seen is = then_breaks (λ x rest. Found (f x) rest) (λ x rest. tt) seen is

marked_breaks : {X : Type 0} (mark : ℕ) (read : List ℕ → Seen X) → ((bytes : List ℕ) → BreaksAlone (read bytes)) → (bytes : List ℕ) → BreaksAlone (marked mark read bytes)
marked_breaks mark read each [] = tt
marked_breaks {X} mark read each (b ∷ bs) = by_test (λ (s : Seen X). BreaksAlone s) (b == mark) (read bs) (Bad Protocol) (λ _. each bs) (λ _. refl)

else_breaks : {X : Type 0} (mark : ℕ) (read other : List ℕ → Seen X) → ((bytes : List ℕ) → BreaksAlone (read bytes)) → ((bytes : List ℕ) → BreaksAlone (other bytes))
    → (bytes : List ℕ) → BreaksAlone (or_else mark read other bytes)
else_breaks mark read other each others [] = tt
else_breaks {X} mark read other each others (b ∷ bs) = by_test (λ (s : Seen X). BreaksAlone s) (b == mark) (read bs) (other (b ∷ bs)) (λ _. each bs) (λ _. others (b ∷ bs))

cr_breaks : {X : Type 0} (x : X) (bytes : List ℕ) → BreaksAlone (after_cr x bytes)
cr_breaks x [] = tt
cr_breaks {X} x (b ∷ bs) = by_test (λ (s : Seen X). BreaksAlone s) (b == 10) (Found x bs) (Bad Protocol) (λ _. tt) (λ _. refl)

digits_break : (most n : ℕ) (bytes : List ℕ) → BreaksAlone (digits_at Protocol most n bytes)
digits_break most n [] = tt
digits_break most n (b ∷ bs) =
    by_test (λ (s : Seen ℕ). BreaksAlone s) (eqb b 13) (after_cr n bs) _ (λ _. cr_breaks n bs)
    (λ _. by_test (λ (s : Seen ℕ). BreaksAlone s) (eqb n 0 || (ltb b 48 || ltb 57 b)) (Bad Protocol) _ (λ _. refl)
    (λ _. by_test (λ (s : Seen ℕ). BreaksAlone s) (ltb most (10 * n + (b - 48))) (Bad Protocol) (digits_at Protocol most (10 * n + (b - 48)) bs) (λ _. refl)
    (λ _. digits_break most (10 * n + (b - 48)) bs)))

number_breaks : (least most : ℕ) (bytes : List ℕ) → BreaksAlone (number_at Protocol least most bytes)
number_breaks least most [] = tt
number_breaks least most (b ∷ bs) =
    by_test (λ (s : Seen ℕ). BreaksAlone s) (ltb b 48 || ltb 57 b) (Bad Protocol) _ (λ _. refl)
    (λ _. by_test (λ (s : Seen ℕ). BreaksAlone s) (ltb (b - 48) least) (Bad Protocol) _ (λ _. refl)
    (λ _. by_test (λ (s : Seen ℕ). BreaksAlone s) (ltb most (b - 48)) (Bad Protocol) (digits_at Protocol most (b - 48) bs) (λ _. refl) (λ _. digits_break most (b - 48) bs)))

end_breaks : (word bytes : List ℕ) → BreaksAlone (line_end_at word bytes)
end_breaks word [] = tt
end_breaks word (b ∷ bs) = by_test (λ (s : Seen (List ℕ)). BreaksAlone s) (b == 13) (after_cr word bs) (Bad Protocol) (λ _. cr_breaks word bs) (λ _. refl)

body_breaks : (n : ℕ) (bytes : List ℕ) → BreaksAlone (body_at n bytes)
body_breaks n bytes = by_test (λ (s : Seen (List ℕ)). BreaksAlone s) (ltb (length bytes) n) Wants (line_end_at (take n bytes) (drop n bytes)) (λ _. tt) (λ _. end_breaks (take n bytes) (drop n bytes))

text_breaks : (bytes : List ℕ) → BreaksAlone (text_at bytes)
text_breaks [] = tt
text_breaks (b ∷ bs) =
    by_test (λ (s : Seen (List ℕ)). BreaksAlone s) (b == 13) (after_cr [] bs) _ (λ _. cr_breaks [] bs)
    (λ _. by_test (λ (s : Seen (List ℕ)). BreaksAlone s) (b == 10) (Bad Protocol) (as_found (λ text. b ∷ text) (text_at bs)) (λ _. refl)
    (λ _. found_breaks (λ text. b ∷ text) (text_at bs) (text_breaks bs)))

integer_breaks : (bytes : List ℕ) → BreaksAlone (integer_at bytes)
integer_breaks bytes =
    else_breaks 45 (λ rest. as_found (λ n. negsuc (n - 1)) (number_at Protocol 1 (2 ^ 63) rest)) (λ rest. as_found pos (number_at Protocol 0 (2 ^ 63 - 1) rest))
    (λ rest. found_breaks (λ n. negsuc (n - 1)) (number_at Protocol 1 (2 ^ 63) rest) (number_breaks 1 (2 ^ 63) rest))
    (λ rest. found_breaks pos (number_at Protocol 0 (2 ^ 63 - 1) rest) (number_breaks 0 (2 ^ 63 - 1) rest)) bytes

bulk_breaks : (bytes : List ℕ) → BreaksAlone (bulk_or_null_at bytes)
bulk_breaks bytes =
    else_breaks 45 null_at bytes_at
    (λ rest. marked_breaks 49 (marked 13 line_feed_at) (marked_breaks 13 line_feed_at (marked_breaks 10 (λ last. Found (element.Null ∷ []) last) (λ last. tt))) rest)
    (λ rest. then_breaks bytes_of (λ n last. found_breaks (λ word. element.Bulk word ∷ []) (body_at n last) (body_breaks n last)) (number_at Protocol 0 most_number rest) (number_breaks 0 most_number rest)) bytes

leaf_breaks : (bytes : List ℕ) → BreaksAlone (leaf_at bytes)
leaf_breaks bytes =
    else_breaks 43 simple_at (or_else 45 error_at (or_else 58 number_element_at (marked 36 bulk_or_null_at)))
    (λ rest. found_breaks (λ text. element.Simple text ∷ []) (text_at rest) (text_breaks rest))
    (else_breaks 45 error_at (or_else 58 number_element_at (marked 36 bulk_or_null_at))
    (λ rest. found_breaks (λ text. element.Error text ∷ []) (text_at rest) (text_breaks rest))
    (else_breaks 58 number_element_at (marked 36 bulk_or_null_at)
    (λ rest. found_breaks (λ number. element.Integer number ∷ []) (integer_at rest) (integer_breaks rest))
    (marked_breaks 36 bulk_or_null_at bulk_breaks))) bytes

times_break : {X : Type 0} (read : List ℕ → Seen X) → ((bytes : List ℕ) → BreaksAlone (read bytes)) → (count : ℕ) (bytes : List ℕ) → BreaksAlone (times read count bytes)
times_break read each zero bytes = tt
times_break read each (suc count) bytes =
    then_breaks (λ x rest. as_found (λ xs. x ∷ xs) (times read count rest)) (λ x rest. found_breaks (λ xs. x ∷ xs) (times read count rest) (times_break read each count rest)) (read bytes) (each bytes)

reply_breaks : (depth : ℕ) (bytes : List ℕ) → BreaksAlone (reply_at depth bytes)
reply_breaks zero bytes = leaf_breaks bytes
reply_breaks (suc depth) bytes =
    else_breaks 42 (array_by (reply_at depth)) leaf_at
    (λ rest. then_breaks (λ n last. as_found (λ parts. element.Array n ∷ flat_map (λ part. part) parts) (times (reply_at depth) n last))
    (λ n last. found_breaks (λ parts. element.Array n ∷ flat_map (λ part. part) parts) (times (reply_at depth) n last) (times_break (reply_at depth) (reply_breaks depth) n last))
    (number_at Protocol 0 most_number rest) (number_breaks 0 most_number rest))
    leaf_breaks bytes

-- ---- what is read

abbrev pub reading_reply : List ℕ → Seen (List Element)
reading_reply bytes = reply_at MOST_DEPTH bytes

abbrev reader : IsReader (IsReplyAt MOST_DEPTH) all_spelled (reply_at MOST_DEPTH)
reader = reply_reader MOST_DEPTH

reads : (reply : Reply) → ReplyKeepsLimits reply → IsReplyAt MOST_DEPTH (elements_of reply)
reads reply limits = limits_read MOST_DEPTH reply limits.whole limits.shallow (each_by_recursion ElementKeepsLimits (elements_of reply) limits.each)

-- a reply in front is read
pub reply_again : (reply : Reply) (rest : List ℕ) → ReplyKeepsLimits reply → reading_reply (reply_spelling reply ++ rest) ≡ Found (elements_of reply) rest
reply_again reply rest limits =
    ap (λ (t : List ℕ). reading_reply (t ++ rest)) (sym (spelled_reply reply)) ∙ reader.again (elements_of reply) rest (reads reply limits)

keeps_limits : (elements : List Element) → IsReplyAt MOST_DEPTH elements → (reply : Reply) → IsTrue (is_reply reply) → elements_of reply ≡ elements → ReplyKeepsLimits reply
keeps_limits elements is reply sound same =
    let of = reads_limits MOST_DEPTH elements is in
    record {
      whole = sound;
      shallow = subst (λ (t : List Element). depth_of t ≤ MOST_DEPTH) (sym same) of.deep;
      each = subst (λ (t : List Element). All ElementKeepsLimits t) (sym same) (each_by_index ElementKeepsLimits elements of.limited);
    }

-- what is read is a reply
pub reply_is : (bytes rest : List ℕ) (reply : Reply) → IsTrue (is_reply reply) → reading_reply bytes ≡ Found (elements_of reply) rest
    → ReplyKeepsLimits reply × (bytes ≡ reply_spelling reply ++ rest)
reply_is bytes rest reply sound found =
    let means : IsReplyAt MOST_DEPTH (elements_of reply) × (bytes ≡ all_spelled (elements_of reply) ++ rest) =
    subst (Means (IsReplyAt MOST_DEPTH) all_spelled bytes) found (reader.means bytes) in
    (keeps_limits (elements_of reply) means.0 reply sound refl, means.1 ∙ ap (λ (t : List ℕ). t ++ rest) (spelled_reply reply))

pub reply_of_found : (bytes : List ℕ) (elements : List Element) (rest : List ℕ) → reading_reply bytes ≡ Found elements rest
    → (reply : Reply) × ReplyKeepsLimits reply × (bytes ≡ reply_spelling reply ++ rest)
reply_of_found bytes elements rest found =
    let means : IsReplyAt MOST_DEPTH elements × (bytes ≡ all_spelled elements ++ rest) = subst (Means (IsReplyAt MOST_DEPTH) all_spelled bytes) found (reader.means bytes) in
    let of = reads_limits MOST_DEPTH elements means.0 in
    let is = reply_is bytes rest of.reply of.is (found ∙ ap (λ (t : List Element). Found t rest) (sym of.made)) in
    (of.reply, is.0, is.1)

-- ---- more bytes are wanted

pub waits_unfinished : (bytes : List ℕ) → reading_reply bytes ≡ Wants → IsUnfinishedReply bytes
waits_unfinished bytes wants =
    let means : EndsIn (IsReplyAt MOST_DEPTH) all_spelled bytes = subst (Means (IsReplyAt MOST_DEPTH) all_spelled bytes) wants (reader.means bytes) in
    let of = reads_limits MOST_DEPTH means.value means.is_valid in
    record {
      reply = of.reply;
      rest = means.more;
      limits = keeps_limits means.value means.is_valid of.reply of.is of.made;
      wanted = means.wanted;
      spelled = means.ends ∙ ap all_spelled (sym of.made) ∙ spelled_reply of.reply;
    }

one_begins : (bytes rest : List ℕ) (reply : Reply) → ReplyKeepsLimits reply → bytes ++ rest ≡ reply_spelling reply → IsReplyBeginning bytes
one_begins bytes rest reply limits spelled = record {
  replies = reply ∷ [];
  rest = rest;
  each = each_by_index ReplyKeepsLimits (reply ∷ []) (limits, tt);
  spelled = spelled ∙ sym (append-nil (reply_spelling reply));
}

pub waits_begin : (bytes : List ℕ) → reading_reply bytes ≡ Wants → IsReplyBeginning bytes
waits_begin bytes wants =
    let unfinished = waits_unfinished bytes wants in
    one_begins bytes unfinished.rest unfinished.reply unfinished.limits unfinished.spelled

-- ---- a bad byte

parts_spelled : (replies : List Reply) → flat_map all_spelled (map elements_of replies) ≡ replies_spelling replies
parts_spelled [] = refl
parts_spelled (reply ∷ replies) =
    ap (λ (t : List ℕ). t ++ flat_map all_spelled (map elements_of replies)) (spelled_reply reply) ∙ ap (λ (t : List ℕ). reply_spelling reply ++ t) (parts_spelled replies)

parts_read : (replies : List Reply) → AllByRecursion ReplyKeepsLimits replies → AllByRecursion (IsReplyAt MOST_DEPTH) (map elements_of replies)
parts_read [] each = tt
parts_read (reply ∷ replies) each = (reads reply each.0, parts_read replies each.1)

bad_is_none : (bytes : List ℕ) (fault : Fault) → reading_reply bytes ≡ Bad fault → ¬ IsReplyBeginning bytes
bad_is_none bytes fault bad begins =
    bad_begins_nothing (IsReplyAt MOST_DEPTH) all_spelled (reply_at MOST_DEPTH) reader (element.Null ∷ []) (limits_read MOST_DEPTH replies.Null refl (omega arith) (tt, tt)) bytes fault bad
    (record {
      values = map elements_of begins.replies;
      rest = begins.rest;
      each = parts_read begins.replies (each_by_recursion ReplyKeepsLimits begins.replies begins.each);
      ends = begins.spelled ∙ sym (parts_spelled begins.replies);
    })

pub stays : Stays reading_reply
stays = record { bad = reader.stays; found = found_again (IsReplyAt MOST_DEPTH) all_spelled (reply_at MOST_DEPTH) reader }

pub first_bad : (bytes : List ℕ) (fault : Fault) → reading_reply bytes ≡ Bad fault → HasFirstBadReplyByte bytes
first_bad bytes fault bad =
    let s = shortest_bad reading_reply stays fault bytes bad in
    record {
      front = s.front;
      rest = s.rest;
      split = s.split;
      bad = bad_is_none s.front fault s.bad;
      first = λ shorter more parts wanted. waits_begin shorter (s.first shorter more parts wanted);
    }

pub no_reply : (bytes : List ℕ) (fault : Fault) → reading_reply bytes ≡ Bad fault → HasNoReply bytes
no_reply bytes fault bad reply rest limits whole =
    let found : Bad fault ≡ Found (elements_of reply) rest = sym bad ∙ ap reading_reply whole ∙ reply_again reply rest limits in
    absurd cc

-- ---- the answers of a reader

abbrev state : List ℕ → Option Fault → ReaderState
state pending fault = record { pending = pending; fault = fault }

pub hands_out_reply : (old : ReaderState) (reply : Reply) (rest : List ℕ) (after : Option Fault) → old.fault ≡ None → IsTrue (is_reply reply)
    → reading_reply old.pending ≡ Found (elements_of reply) rest → after ≡ None → HandsOutReply old reply (state rest after)
hands_out_reply old reply rest after sound whole found still =
    let is = reply_is old.pending rest reply whole found in
    record { sound = sound; limits = is.0; consumed = is.1; still_sound = still }

pub breaks_reply : (old : ReaderState) (fault : Fault) → reading_reply old.pending ≡ Bad fault → BreaksReply old (state old.pending (Some Protocol))
breaks_reply old fault bad = record { first = first_bad old.pending fault bad; none = no_reply old.pending fault bad; unread = refl; kept = refl }

-- by what was taken
pub answers_reply : (old : ReaderState) (found : Option Reply) (pending rest : List ℕ) (after : Option Fault) → old.fault ≡ None → pending ≡ old.pending
    → IfSome found (λ reply. IsTrue (is_reply reply)) → TakesReply (Ok found) (reading_reply pending) rest → after ≡ None → IfSome found (λ reply. HandsOutReply old reply (state rest after))
answers_reply old None pending rest after sound same whole takes still = tt
answers_reply old (Some reply) pending rest after sound same whole takes still =
    hands_out_reply old reply rest after sound whole (ap reading_reply (sym same) ∙ takes) still

pub answers_waits : (old : ReaderState) (found : Option Reply) (pending rest : List ℕ) (after : Option Fault) → old.fault ≡ None → pending ≡ old.pending
    → IfNone found (rest ≡ pending) → TakesReply (Ok found) (reading_reply pending) rest → after ≡ None → IfNone found (WaitsForReply old (state rest after))
answers_waits old (Some reply) pending rest after sound same kept takes still = tt
answers_waits old None pending rest after sound same kept takes still = record {
  sound = sound;
  unfinished = waits_unfinished old.pending (ap reading_reply (sym same) ∙ takes);
  unchanged = ap (λ (t : List ℕ). state t after) (kept ∙ same) ∙ ap (state old.pending) (still ∙ sym sound);
}

one_fault : (bytes : List ℕ) (fault : Fault) → reading_reply bytes ≡ Bad fault → fault ≡ Protocol
one_fault bytes fault bad = subst BreaksAlone bad (reply_breaks MOST_DEPTH bytes)

-- a fault that lasts is told
abbrev kept_fault : Bool → Option Fault
kept_fault is_broken = if is_broken then Some Protocol else None

pub answers_fault : (old : ReaderState) (fault : Fault) (pending rest : List ℕ) (is_broken : Bool) → old.fault ≡ None → pending ≡ old.pending → rest ≡ pending
    → Refuses fault (reading_reply pending) → is_broken ≡ is_lasting fault → FailsReplyBy fault old (state rest (kept_fault is_broken))
answers_fault old Memory pending rest is_broken sound same kept refuses lasts =
    ap (λ (b : Bool). state rest (kept_fault b)) lasts ∙ ap (λ (t : List ℕ). state t None) (kept ∙ same) ∙ ap (state old.pending) (sym sound)
answers_fault old Protocol pending rest is_broken sound same kept refuses lasts =
    subst (λ (b : Bool). BreaksReply old (state rest (kept_fault b))) (sym lasts)
    (subst (λ (t : List ℕ). BreaksReply old (state t (Some Protocol))) (sym (kept ∙ same)) (breaks_reply old Protocol (ap reading_reply (sym same) ∙ refuses (λ e. cc))))
answers_fault old TooLong pending rest is_broken sound same kept refuses lasts =
    let protocol : TooLong ≡ Protocol = one_fault pending TooLong (refuses (λ e. cc)) in
    absurd cc

-- no fault was kept before
pub anyway : (old : Option Fault) (P : Type 0) → P → IfNone old P
anyway None P p = p
anyway (Some fault) P p = tt

pub none_kept : (old : Option Fault) (P : Fault → Type 0) → old ≡ None → IfSome old P
none_kept None P is = tt
none_kept (Some fault) P is = absurd cc
