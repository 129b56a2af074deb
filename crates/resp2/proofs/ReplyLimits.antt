-- The replies that are read are those that keep the limits.
use Rattle.std.proofs.Common.{◌≡◌, inl, inr, ℕ, zero, suc, ◌+◌, ◌<◌, ◌≤◌, List, [], ◌∷◌, ◌++◌, length, map, true, refl, sym, ap, subst, ◌∙◌, append-nil, arith}
use Rattle.std.specs.List.{AllByRecursion, flat_map}
use Rattle.std.proofs.lemmas.List.{length-map}
use Rattle.resp_values.specs.Array.{is_array, depth_of}
use Rattle.resp_values.specs.Reply.{elements_of, array_of, is_reply, greatest_depth, reply_spelling}
use Rattle.resp2.specs.ReplyProgress.{HasHeader}
use Rattle.resp2.specs.ReplyReader.{ElementKeepsLimits}
use Rattle.resp_values.specs.declared.array.Element.{Element}
use Rattle.resp_values.specs.declared.array.Element.TheVariants as element
use Rattle.resp_values.specs.declared.reply.Reply.{Reply}
use Rattle.resp_values.specs.declared.reply.Reply.TheVariants.{Simple, Error, Integer, Bulk, Null, Array}
use Rattle.resp2.specs.declared.reply_reader.TheConstants.{MOST_COUNT}
use Rattle.resp_values.proofs.ArrayLaws.{arrays_are_of_replies, array_is_one_deeper}
use Rattle.resp2.proofs.ReplyReaders.{IsLeaf, IsReplyAt, all_spelled, joined}
use Rattle.resp_values.proofs.Each.{each_by_recursion, each_by_index}

abbrev pub AreLimited : List Element → Type 0
AreLimited elements = AllByRecursion ElementKeepsLimits elements

abbrev IsSound : Reply → Type 0
IsSound reply = is_reply reply ≡ true

limited-append : (front rest : List Element) → AreLimited (front ++ rest) → AreLimited front × AreLimited rest
limited-append [] rest are = (tt, are)
limited-append (x ∷ front) rest are = let behind = limited-append front rest are.1 in ((are.0, behind.0), behind.1)

limited-both : (front rest : List Element) → AreLimited front → AreLimited rest → AreLimited (front ++ rest)
limited-both [] rest are others = others
limited-both (x ∷ front) rest are others = (are.0, limited-both front rest are.1 others)

-- ---- from the limits

leaf_is : (depth : ℕ) (elements : List Element) → IsLeaf elements → IsReplyAt depth elements
leaf_is zero elements is = is
leaf_is (suc depth) elements is = inr is

-- replies in a row as lists of elements
abbrev parts_of : List Reply → List (List Element)
parts_of replies = map elements_of replies

parts_joined : (replies : List Reply) → joined (parts_of replies) ≡ flat_map elements_of replies
parts_joined [] = refl
parts_joined (reply ∷ replies) = ap (λ (t : List Element). elements_of reply ++ t) (parts_joined replies)

abbrev Reads : ℕ → Type 0
Reads depth = (reply : Reply) → IsSound reply → depth_of (elements_of reply) ≤ depth → AreLimited (elements_of reply) → IsReplyAt depth (elements_of reply)

each_reads : (depth : ℕ) → Reads depth → (replies : List Reply) → AllByRecursion IsSound replies → greatest_depth replies ≤ depth → AreLimited (flat_map elements_of replies)
    → AllByRecursion (IsReplyAt depth) (parts_of replies)
each_reads depth reads [] are deep limited = tt
each_reads depth reads (reply ∷ replies) are deep limited =
    let both = limited-append (elements_of reply) (flat_map elements_of replies) limited in
    (reads reply are.0 (omega arith) both.0, each_reads depth reads replies are.1 (omega arith) both.1)

array_reads : (depth : ℕ) → Reads depth → (elements : List Element) → is_array elements ≡ true → depth_of elements ≤ suc depth → AreLimited elements → IsReplyAt (suc depth) elements
array_reads depth reads elements is deep limited =
    let of = (arrays_are_of_replies elements).0 is in
    let replies : List Reply = of.0 in
    let made : elements ≡ array_of replies = of.2 in
    let one_deeper : depth_of elements ≡ greatest_depth replies + 1 = ap depth_of made ∙ array_is_one_deeper replies of.1 in
    let limits : AreLimited (array_of replies) = subst AreLimited made limited in
    let long : length (parts_of replies) ≡ length replies = length-map replies elements_of in
    inl (
      parts_of replies,
      subst (λ (n : ℕ). n ≤ MOST_COUNT) (sym long) limits.0,
      each_reads depth reads replies (each_by_recursion IsSound replies of.1) (omega (arith, one_deeper)) limits.1,
      made ∙ ap (λ (n : ℕ). element.Array n ∷ flat_map elements_of replies) (sym long) ∙ ap (λ (t : List Element). element.Array (length (parts_of replies)) ∷ t) (sym (parts_joined replies)),
    )

pub limits_read : (depth : ℕ) → Reads depth
limits_read depth (Simple text) is deep limited = leaf_is depth (element.Simple text ∷ []) (inl (text, limited.0, refl))
limits_read depth (Error text) is deep limited = leaf_is depth (element.Error text ∷ []) (inr (inl (text, limited.0, refl)))
limits_read depth (Integer number) is deep limited = leaf_is depth (element.Integer number ∷ []) (inr (inr (inl (number, limited.0, refl))))
limits_read depth (Bulk bytes) is deep limited = leaf_is depth (element.Bulk bytes ∷ []) (inr (inr (inr (inr (bytes, limited.0, refl)))))
limits_read depth Null is deep limited = leaf_is depth (element.Null ∷ []) (inr (inr (inr (inl refl))))
limits_read zero (Array elements) is deep limited =
    let of = (arrays_are_of_replies elements).0 is in
    let one_deeper : depth_of elements ≡ greatest_depth of.0 + 1 = ap depth_of of.2 ∙ array_is_one_deeper of.0 of.1 in
    absurd (omega (arith, one_deeper))
limits_read (suc depth) (Array elements) is deep limited = array_reads depth (limits_read depth) elements is deep limited

-- ---- to the limits

-- the elements are those of a reply that nests so deep at most
pub record IsOf (depth : ℕ) (elements : List Element) : Type 0 where
  pub reply : Reply
  pub is : is_reply reply ≡ true
  pub deep : depth_of elements ≤ depth
  pub limited : AllByRecursion ElementKeepsLimits elements
  pub made : elements_of reply ≡ elements

leaf_of : (depth : ℕ) (elements : List Element) → IsLeaf elements → IsOf depth elements
leaf_of depth elements (inl is) =
    subst (IsOf depth) (sym is.2) (record { reply = Simple is.0; is = refl; deep = omega arith; limited = (is.1, tt); made = refl })
leaf_of depth elements (inr (inl is)) =
    subst (IsOf depth) (sym is.2) (record { reply = Error is.0; is = refl; deep = omega arith; limited = (is.1, tt); made = refl })
leaf_of depth elements (inr (inr (inl is))) =
    subst (IsOf depth) (sym is.2) (record { reply = Integer is.0; is = refl; deep = omega arith; limited = (is.1, tt); made = refl })
leaf_of depth elements (inr (inr (inr (inl is)))) =
    subst (IsOf depth) (sym is) (record { reply = Null; is = refl; deep = omega arith; limited = (tt, tt); made = refl })
leaf_of depth elements (inr (inr (inr (inr is)))) =
    subst (IsOf depth) (sym is.2) (record { reply = Bulk is.0; is = refl; deep = omega arith; limited = (is.1, tt); made = refl })

-- so many of them, one behind another
record AreOf (depth : ℕ) (parts : List (List Element)) : Type 0 where
  replies : List Reply
  are : AllByRecursion (λ reply. is_reply reply ≡ true) replies
  deep : greatest_depth replies ≤ depth
  limited : AllByRecursion ElementKeepsLimits (flat_map (λ part. part) parts)
  long : length replies ≡ length parts
  made : flat_map elements_of replies ≡ flat_map (λ part. part) parts

each_of : (depth : ℕ) → ((elements : List Element) → IsReplyAt depth elements → IsOf depth elements) → (parts : List (List Element)) → AllByRecursion (IsReplyAt depth) parts → AreOf depth parts
each_of depth of [] are = record { replies = []; are = tt; deep = omega arith; limited = tt; long = refl; made = refl }
each_of depth of (part ∷ parts) are =
    let first = of part are.0 in
    let others = each_of depth of parts are.1 in
    record {
      replies = first.reply ∷ others.replies;
      are = (first.is, others.are);
      deep = (let one = first.deep in let same = ap depth_of first.made in let more = others.deep in omega (arith, one, same, more));
      limited = limited-both part (joined parts) first.limited others.limited;
      long = ap suc others.long;
      made = ap (λ (t : List Element). t ++ flat_map elements_of others.replies) first.made ∙ ap (λ (t : List Element). part ++ t) others.made;
    }

pub reads_limits : (depth : ℕ) (elements : List Element) → IsReplyAt depth elements → IsOf depth elements
reads_limits zero elements is = leaf_of zero elements is
reads_limits (suc depth) elements (inr is) = leaf_of (suc depth) elements is
reads_limits (suc depth) elements (inl is) =
    let all = each_of depth (reads_limits depth) is.0 is.2 in
    let made : elements ≡ array_of all.replies =
    is.3 ∙ ap (λ (n : ℕ). element.Array n ∷ joined is.0) (sym all.long) ∙ ap (λ (t : List Element). element.Array (length all.replies) ∷ t) (sym all.made) in
    let sound = each_by_index IsSound all.replies all.are in
    let one_deeper : depth_of elements ≡ greatest_depth all.replies + 1 = ap depth_of made ∙ array_is_one_deeper all.replies sound in
    record {
      reply = Array elements;
      is = (arrays_are_of_replies elements).1 (all.replies, sound, made);
      deep = (let inner = all.deep in omega (arith, one_deeper, inner));
      limited = subst AreLimited (sym is.3) (is.1, all.limited);
      made = refl;
    }

-- ---- elements, as the bytes of a reply

pub spelled_reply : (reply : Reply) → all_spelled (elements_of reply) ≡ reply_spelling reply
spelled_reply (Simple text) = append-nil (reply_spelling (Simple text))
spelled_reply (Error text) = append-nil (reply_spelling (Error text))
spelled_reply (Integer number) = append-nil (reply_spelling (Integer number))
spelled_reply (Bulk bytes) = append-nil (reply_spelling (Bulk bytes))
spelled_reply Null = refl
spelled_reply (Array elements) = refl

-- what begins with a header is an array
pub headed_array : (depth : ℕ) (elements : List Element) → IsReplyAt depth elements → HasHeader elements → 0 < length elements → is_array elements ≡ true
headed_array depth elements is headed some = by_reply of.reply of.is of.made
  where
    of : IsOf depth elements
    of = reads_limits depth elements is

    by_reply : (reply : Reply) → is_reply reply ≡ true → elements_of reply ≡ elements → is_array elements ≡ true
    by_reply (Simple text) sound made = absurd (subst HasHeader (sym made) headed)
    by_reply (Error text) sound made = absurd (subst HasHeader (sym made) headed)
    by_reply (Integer number) sound made = absurd (subst HasHeader (sym made) headed)
    by_reply (Bulk bytes) sound made = absurd (subst HasHeader (sym made) headed)
    by_reply Null sound made = absurd (subst HasHeader (sym made) headed)
    by_reply (Array others) sound made = subst (λ (t : List Element). is_array t ≡ true) made sound
