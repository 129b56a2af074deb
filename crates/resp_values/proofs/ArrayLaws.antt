-- Arrays are those of replies, and how deep they nest.
use Rattle.std.proofs.Common.{◌≡◌, ℕ, zero, suc, ◌+◌, ◌≤◌, max, List, [], ◌∷◌, ◌++◌, length, map, replicate, true, refl, sym, ap, ◌∙◌, append_assoc, zero-add, arith}
use Rattle.std.specs.List.{AllByRecursion, flat_map}
use Rattle.std.proofs.lemmas.List.{append-nil, length-append, length-replicate}
use Rattle.std.proofs.lemmas.Grind.{flat_map-append}
use Rattle.resp_values.specs.Array.{has_replies, is_array, deepest, depth_of}
use Rattle.resp_values.specs.Law.{ArraysAreOfReplies, ArrayDeterminesReplies, ArrayIsOneDeeper}
use Rattle.resp_values.specs.Reply.{elements_of, array_of, is_reply, greatest_depth}
use Rattle.resp_values.specs.declared.array.Element.{Element}
use Rattle.resp_values.specs.declared.array.Element.TheVariants as element
use Rattle.resp_values.specs.declared.reply.Reply.{Reply}
use Rattle.resp_values.specs.declared.reply.Reply.TheVariants.{Simple, Error, Integer, Bulk, Null, Array}
use Rattle.resp_values.proofs.Arrays.{has_replies-append}
use Rattle.resp_values.proofs.Each.{each_by_recursion, each_by_index}

-- each reply holds an array where it holds elements
abbrev AreReplies : List Reply → Type 0
AreReplies replies = AllByRecursion (λ reply. is_reply reply ≡ true) replies

-- a reply stands there as one
one_reply : (reply : Reply) → is_reply reply ≡ true → has_replies 1 (elements_of reply) ≡ true
one_reply (Simple _) is = refl
one_reply (Error _) is = refl
one_reply (Integer _) is = refl
one_reply (Bulk _) is = refl
one_reply Null is = refl
one_reply (Array []) is = cc
one_reply (Array (element.Simple _ ∷ _)) is = cc
one_reply (Array (element.Error _ ∷ _)) is = cc
one_reply (Array (element.Integer _ ∷ _)) is = cc
one_reply (Array (element.Bulk _ ∷ _)) is = cc
one_reply (Array (element.Null ∷ _)) is = cc
one_reply (Array (element.Array len ∷ elements)) is = ap (λ (n : ℕ). has_replies n elements) (zero-add len) ∙ is

-- and replies in a row as so many
replies_stand : (replies : List Reply) → AreReplies replies → has_replies (length replies) (flat_map elements_of replies) ≡ true
replies_stand [] are = refl
replies_stand (reply ∷ replies) are =
    let one_more : suc (length replies) ≡ length replies + 1 = omega arith in
    ap (λ (n : ℕ). has_replies n (elements_of reply ++ flat_map elements_of replies)) one_more
    ∙ has_replies-append 1 (length replies) (elements_of reply) (flat_map elements_of replies) (one_reply reply are.0)
    ∙ replies_stand replies are.1

-- ---- elements, as the replies that they are

-- the first of these replies, and the others
record Cut (replies : List Reply) (len left : ℕ) : Type 0 where
  front : List Reply
  back : List Reply
  long : length front ≡ len
  others : length back ≡ left
  are_front : AreReplies front
  are_back : AreReplies back
  both : front ++ back ≡ replies

cut : (replies : List Reply) (len left : ℕ) → length replies ≡ left + len → AreReplies replies → Cut replies len left
cut replies zero left count are = record { front = []; back = replies; long = refl; others = omega arith; are_front = tt; are_back = are; both = refl }
cut [] (suc len) left count are = absurd (omega arith)
cut (reply ∷ replies) (suc len) left count are =
    let fewer : length replies ≡ left + len = omega arith in
    let c = cut replies len left fewer are.1 in
    record {
      front = reply ∷ c.front;
      back = c.back;
      long = ap suc c.long;
      others = c.others;
      are_front = (are.0, c.are_front);
      are_back = c.are_back;
      both = ap (λ (t : List Reply). reply ∷ t) c.both;
    }

-- these replies stand in the elements
record Stand (count : ℕ) (elements : List Element) : Type 0 where
  replies : List Reply
  long : length replies ≡ count
  are : AreReplies replies
  made : flat_map elements_of replies ≡ elements

-- one more reply of one element
stand_behind : (count : ℕ) (elements : List Element) (reply : Reply) (element : Element) → elements_of reply ≡ element ∷ [] → is_reply reply ≡ true
    → Stand count elements → Stand (suc count) (element ∷ elements)
stand_behind count elements reply element single is s = record {
  replies = reply ∷ s.replies;
  long = ap suc s.long;
  are = (is, s.are);
  made = ap (λ (t : List Element). t ++ flat_map elements_of s.replies) single ∙ ap (λ (t : List Element). element ∷ t) s.made;
}

stand : (count : ℕ) (elements : List Element) → has_replies count elements ≡ true → Stand count elements
stand zero [] whole = record { replies = []; long = refl; are = tt; made = refl }
stand zero (_ ∷ _) whole = absurd cc
stand (suc count) [] whole = absurd cc
stand (suc count) (element.Simple text ∷ elements) whole = stand_behind count elements (Simple text) (element.Simple text) refl refl (stand count elements whole)
stand (suc count) (element.Error text ∷ elements) whole = stand_behind count elements (Error text) (element.Error text) refl refl (stand count elements whole)
stand (suc count) (element.Integer n ∷ elements) whole = stand_behind count elements (Integer n) (element.Integer n) refl refl (stand count elements whole)
stand (suc count) (element.Bulk bytes ∷ elements) whole = stand_behind count elements (Bulk bytes) (element.Bulk bytes) refl refl (stand count elements whole)
stand (suc count) (element.Null ∷ elements) whole = stand_behind count elements Null element.Null refl refl (stand count elements whole)
stand (suc count) (element.Array len ∷ elements) whole =
    let s = stand (count + len) elements whole in
    let c = cut s.replies len count s.long s.are in
    let inner : List Element = element.Array len ∷ flat_map elements_of c.front in
    let is : has_replies len (flat_map elements_of c.front) ≡ true =
    ap (λ (n : ℕ). has_replies n (flat_map elements_of c.front)) (sym c.long) ∙ replies_stand c.front c.are_front in
    record {
      replies = Array inner ∷ c.back;
      long = ap suc c.others;
      are = (is, c.are_back);
      made = ap (λ (t : List Element). element.Array len ∷ t)
          (sym (flat_map-append elements_of c.front c.back) ∙ ap (λ (t : List Reply). flat_map elements_of t) c.both ∙ s.made);
    }

-- the replies of an array
record Replies (elements : List Element) : Type 0 where
  replies : List Reply
  are : AreReplies replies
  made : elements ≡ array_of replies

replies_of : (elements : List Element) → is_array elements ≡ true → Replies elements
replies_of [] is = absurd cc
replies_of (element.Simple _ ∷ _) is = absurd cc
replies_of (element.Error _ ∷ _) is = absurd cc
replies_of (element.Integer _ ∷ _) is = absurd cc
replies_of (element.Bulk _ ∷ _) is = absurd cc
replies_of (element.Null ∷ _) is = absurd cc
replies_of (element.Array len ∷ elements) is =
    let s = stand len elements is in
    record {
      replies = s.replies;
      are = s.are;
      made = ap (λ (n : ℕ). element.Array n ∷ elements) (sym s.long) ∙ ap (λ (t : List Element). element.Array (length s.replies) ∷ t) (sym s.made);
    }

pub arrays_are_of_replies : ArraysAreOfReplies
arrays_are_of_replies elements =
    let IsSound : Reply → Type 0 = λ reply. is_reply reply ≡ true in (
      λ is. (let r = replies_of elements is in (r.replies, each_by_index IsSound r.replies r.are, r.made)),
      λ r. ap (λ (t : List Element). is_array t) r.2 ∙ replies_stand r.0 (each_by_recursion IsSound r.0 r.1),
    )

-- ---- and of no others

-- so many replies end where they end
stand_once : (count : ℕ) (one other rest more : List Element) → has_replies count one ≡ true → has_replies count other ≡ true
    → one ++ rest ≡ other ++ more → (one ≡ other) × (rest ≡ more)
stand_once zero [] [] rest more whole all same = (refl, same)
stand_once zero [] (_ ∷ _) rest more whole all same = absurd cc
stand_once zero (_ ∷ _) other rest more whole all same = absurd cc
stand_once (suc count) [] other rest more whole all same = absurd cc
stand_once (suc count) (_ ∷ _) [] rest more whole all same = absurd cc
stand_once (suc count) (x ∷ one) (y ∷ other) rest more whole all same =
    let head : y ≡ x = cc in
    let tails : one ++ rest ≡ other ++ more = cc in
    let stands : has_replies (suc count) (x ∷ other) ≡ true = ap (λ (z : Element). has_replies (suc count) (z ∷ other)) (sym head) ∙ all in
    let behind = by_head x (λ k p q. stand_once k one other rest more p q tails) whole stands in
    (ap (λ (z : Element). z ∷ one) (sym head) ∙ ap (λ (t : List Element). y ∷ t) behind.0, behind.1)
  where
    by_head : (x : Element)
        → ((k : ℕ) → has_replies k one ≡ true → has_replies k other ≡ true → (one ≡ other) × (rest ≡ more))
        → has_replies (suc count) (x ∷ one) ≡ true → has_replies (suc count) (x ∷ other) ≡ true → (one ≡ other) × (rest ≡ more)
    by_head (element.Simple _) next whole all = next count whole all
    by_head (element.Error _) next whole all = next count whole all
    by_head (element.Integer _) next whole all = next count whole all
    by_head (element.Bulk _) next whole all = next count whole all
    by_head element.Null next whole all = next count whole all
    by_head (element.Array len) next whole all = next (count + len) whole all

-- the reply that elements are
reply_of : List Element → Reply
reply_of [] = Null
reply_of (element.Simple text ∷ _) = Simple text
reply_of (element.Error text ∷ _) = Error text
reply_of (element.Integer number ∷ _) = Integer number
reply_of (element.Bulk bytes ∷ _) = Bulk bytes
reply_of (element.Null ∷ _) = Null
reply_of (element.Array len ∷ elements) = Array (element.Array len ∷ elements)

reply_of-elements : (reply : Reply) → is_reply reply ≡ true → reply_of (elements_of reply) ≡ reply
unfolding reply_of
reply_of-elements (Simple _) is = refl
reply_of-elements (Error _) is = refl
reply_of-elements (Integer _) is = refl
reply_of-elements (Bulk _) is = refl
reply_of-elements Null is = refl
reply_of-elements (Array []) is = absurd cc
reply_of-elements (Array (element.Simple _ ∷ _)) is = absurd cc
reply_of-elements (Array (element.Error _ ∷ _)) is = absurd cc
reply_of-elements (Array (element.Integer _ ∷ _)) is = absurd cc
reply_of-elements (Array (element.Bulk _ ∷ _)) is = absurd cc
reply_of-elements (Array (element.Null ∷ _)) is = absurd cc
reply_of-elements (Array (element.Array len ∷ elements)) is = refl

-- one reply is made of these elements
pub same_reply : (reply other : Reply) → is_reply reply ≡ true → is_reply other ≡ true → elements_of reply ≡ elements_of other → reply ≡ other
same_reply reply other is also same = sym (reply_of-elements reply is) ∙ ap reply_of same ∙ reply_of-elements other also

replies_are : (replies others : List Reply) → length replies ≡ length others → AreReplies replies → AreReplies others
    → flat_map elements_of replies ≡ flat_map elements_of others → replies ≡ others
replies_are [] [] long are all same = refl
replies_are [] (_ ∷ _) long are all same = absurd (omega arith)
replies_are (_ ∷ _) [] long are all same = absurd (omega arith)
replies_are (reply ∷ replies) (other ∷ others) long are all same =
    let first = stand_once 1 (elements_of reply) (elements_of other) (flat_map elements_of replies) (flat_map elements_of others)
    (one_reply reply are.0) (one_reply other all.0) same in
    let head : reply ≡ other = same_reply reply other are.0 all.0 first.0 in
    let tails : replies ≡ others = replies_are replies others (omega arith) are.1 all.1 first.1 in
    ap (λ (r : Reply). r ∷ replies) head ∙ ap (λ (t : List Reply). other ∷ t) tails

pub array_determines_replies : ArrayDeterminesReplies
array_determines_replies replies others are all same =
    let IsSound : Reply → Type 0 = λ reply. is_reply reply ≡ true in
    let long : length replies ≡ length others = cc in
    let tails : flat_map elements_of replies ≡ flat_map elements_of others = cc in
    replies_are replies others long (each_by_recursion IsSound replies are) (each_by_recursion IsSound others all) tails

-- ---- how deep

-- what is behind some replies is looked at with what was met in them
deepest-append : (most : ℕ) (depths more : List ℕ) (front rest : List Element) → has_replies (length depths) front ≡ true
    → deepest most (depths ++ more) (front ++ rest) ≡ deepest (deepest most depths front) more rest
deepest-append most [] more [] rest whole = refl
deepest-append most [] more (_ ∷ _) rest whole = cc
deepest-append most (depth ∷ depths) more [] rest whole = cc
deepest-append most (depth ∷ depths) more (element.Simple _ ∷ front) rest whole = deepest-append most depths more front rest whole
deepest-append most (depth ∷ depths) more (element.Error _ ∷ front) rest whole = deepest-append most depths more front rest whole
deepest-append most (depth ∷ depths) more (element.Integer _ ∷ front) rest whole = deepest-append most depths more front rest whole
deepest-append most (depth ∷ depths) more (element.Bulk _ ∷ front) rest whole = deepest-append most depths more front rest whole
deepest-append most (depth ∷ depths) more (element.Null ∷ front) rest whole = deepest-append most depths more front rest whole
deepest-append most (depth ∷ depths) more (element.Array len ∷ front) rest whole =
    let inner : List ℕ = replicate len (suc depth) in
    let count : length (inner ++ depths) ≡ length depths + len = omega (arith, length-append inner depths, length-replicate {A = ℕ} len (suc depth)) in
    ap (λ (t : List ℕ). deepest (max most (suc depth)) t (front ++ rest)) (sym (append_assoc inner depths more))
    ∙ deepest-append (max most (suc depth)) (inner ++ depths) more front rest (ap (λ (n : ℕ). has_replies n front) count ∙ whole)

deepest-max : (most other : ℕ) (depths : List ℕ) (elements : List Element) → deepest (max most other) depths elements ≡ max most (deepest other depths elements)
deepest-max most other [] [] = refl
deepest-max most other [] (_ ∷ _) = refl
deepest-max most other (_ ∷ _) [] = refl
deepest-max most other (depth ∷ depths) (element.Simple _ ∷ elements) = deepest-max most other depths elements
deepest-max most other (depth ∷ depths) (element.Error _ ∷ elements) = deepest-max most other depths elements
deepest-max most other (depth ∷ depths) (element.Integer _ ∷ elements) = deepest-max most other depths elements
deepest-max most other (depth ∷ depths) (element.Bulk _ ∷ elements) = deepest-max most other depths elements
deepest-max most other (depth ∷ depths) (element.Null ∷ elements) = deepest-max most other depths elements
deepest-max most other (depth ∷ depths) (element.Array len ∷ elements) =
    let both : max (max most other) (suc depth) ≡ max most (max other (suc depth)) = omega arith in
    ap (λ (n : ℕ). deepest n (replicate len (suc depth) ++ depths) elements) both
    ∙ deepest-max most (max other (suc depth)) (replicate len (suc depth) ++ depths) elements

-- in one array more, all is deeper by one
deeper : (len depth : ℕ) (depths : List ℕ) → replicate len (suc depth) ++ map suc depths ≡ map suc (replicate len depth ++ depths)
deeper zero depth depths = refl
deeper (suc len) depth depths = ap (λ (t : List ℕ). suc depth ∷ t) (deeper len depth depths)

deepest-deeper : (most : ℕ) (depths : List ℕ) (elements : List Element) → deepest (suc most) (map suc depths) elements ≡ suc (deepest most depths elements)
deepest-deeper most [] [] = refl
deepest-deeper most [] (_ ∷ _) = refl
deepest-deeper most (_ ∷ _) [] = refl
deepest-deeper most (depth ∷ depths) (element.Simple _ ∷ elements) = deepest-deeper most depths elements
deepest-deeper most (depth ∷ depths) (element.Error _ ∷ elements) = deepest-deeper most depths elements
deepest-deeper most (depth ∷ depths) (element.Integer _ ∷ elements) = deepest-deeper most depths elements
deepest-deeper most (depth ∷ depths) (element.Bulk _ ∷ elements) = deepest-deeper most depths elements
deepest-deeper most (depth ∷ depths) (element.Null ∷ elements) = deepest-deeper most depths elements
deepest-deeper most (depth ∷ depths) (element.Array len ∷ elements) =
    let both : max (suc most) (suc (suc depth)) ≡ suc (max most (suc depth)) = omega arith in
    ap (λ (n : ℕ). deepest n (replicate len (suc (suc depth)) ++ map suc depths) elements) both
    ∙ ap (λ (t : List ℕ). deepest (suc (max most (suc depth))) t elements) (deeper len (suc depth) depths)
    ∙ deepest-deeper (max most (suc depth)) (replicate len (suc depth) ++ depths) elements

-- one reply of an array
depth_of_one : (most : ℕ) (elements : List Element) → 1 ≤ most → deepest most (1 ∷ []) elements ≡ max most (suc (depth_of elements))
depth_of_one most elements some =
    let met : most ≡ max most 1 = omega arith in
    ap (λ (n : ℕ). deepest n (1 ∷ []) elements) met
    ∙ deepest-max most 1 (1 ∷ []) elements
    ∙ ap (λ (n : ℕ). max most n) (deepest-deeper 0 (0 ∷ []) elements)

depth_of_replies : (most : ℕ) (replies : List Reply) → 1 ≤ most → AreReplies replies
    → deepest most (replicate (length replies) 1) (flat_map elements_of replies) ≡ max most (suc (greatest_depth replies))
depth_of_replies most [] some are = omega arith
depth_of_replies most (reply ∷ replies) some are =
    let depth : ℕ = depth_of (elements_of reply) in
    let others : ℕ = greatest_depth replies in
    let both : max (max most (suc depth)) (suc others) ≡ max most (suc (max depth others)) = omega arith in
    deepest-append most (1 ∷ []) (replicate (length replies) 1) (elements_of reply) (flat_map elements_of replies) (one_reply reply are.0)
    ∙ ap (λ (n : ℕ). deepest n (replicate (length replies) 1) (flat_map elements_of replies)) (depth_of_one most (elements_of reply) some)
    ∙ depth_of_replies (max most (suc depth)) replies (omega arith) are.1
    ∙ both

pub array_is_one_deeper : ArrayIsOneDeeper
array_is_one_deeper replies are =
    let inside : ℕ = greatest_depth replies in
    let all : max 1 (suc inside) ≡ inside + 1 = omega arith in
    ap (λ (t : List ℕ). deepest 1 t (flat_map elements_of replies)) (append-nil (replicate (length replies) 1))
    ∙ depth_of_replies 1 replies (omega arith) (each_by_recursion (λ (reply : Reply). is_reply reply ≡ true) replies are)
    ∙ all
