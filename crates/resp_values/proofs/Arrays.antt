-- Replies in a row are as many as stand there.
use Rattle.std.proofs.Common.{◌≡◌, ℕ, zero, suc, ◌+◌, List, [], ◌∷◌, ◌++◌, length, true, ap, ◌∙◌, add-zero, add-suc, arith}
use Rattle.std.proofs.lemmas.List.{flat_map_more, length_push}
use Rattle.std.specs.List.{flat_map}
use Rattle.resp_values.specs.Array.{has_replies}
use Rattle.resp_values.specs.Reply.{elements_of}
use Rattle.resp_values.specs.declared.reply.Reply.{Reply}
use Rattle.resp_values.specs.declared.array.Element.{Element}
use Rattle.resp_values.specs.declared.array.Element.TheVariants.{Simple, Error, Integer, Bulk, Null, Array}

-- behind `count` replies, the rest has those that are left
pub has_replies-append : (count left : ℕ) (front rest : List Element) → has_replies count front ≡ true → has_replies (left + count) (front ++ rest) ≡ has_replies left rest
has_replies-append zero left [] rest whole = ap (λ n. has_replies n rest) (add-zero left)
has_replies-append zero left (_ ∷ _) rest whole = cc
has_replies-append (suc count) left [] rest whole = cc
has_replies-append (suc count) left (Simple text ∷ front) rest whole = rw add-suc (has_replies-append count left front rest whole)
has_replies-append (suc count) left (Error text ∷ front) rest whole = rw add-suc (has_replies-append count left front rest whole)
has_replies-append (suc count) left (Integer number ∷ front) rest whole = rw add-suc (has_replies-append count left front rest whole)
has_replies-append (suc count) left (Bulk bytes ∷ front) rest whole = rw add-suc (has_replies-append count left front rest whole)
has_replies-append (suc count) left (Null ∷ front) rest whole = rw add-suc (has_replies-append count left front rest whole)
has_replies-append (suc count) left (Array len ∷ front) rest whole =
    let same : left + count + len ≡ left + (count + len) = omega arith in
    rw add-suc (ap (λ n. has_replies n (front ++ rest)) same ∙ has_replies-append (count + len) left front rest whole)

-- and one more reply is one more
pub has_replies_push : (replies : List Reply) (reply : Reply) → has_replies (length replies) (flat_map elements_of replies) ≡ true
    → has_replies 1 (elements_of reply) ≡ true → has_replies (length (replies ++ reply ∷ [])) (flat_map elements_of (replies ++ reply ∷ [])) ≡ true
has_replies_push replies reply whole one =
    let more : length (replies ++ reply ∷ []) ≡ 1 + length replies = omega (arith, length_push replies reply) in
    rw (more, ← flat_map_more elements_of [] replies reply) (has_replies-append (length replies) 1 (flat_map elements_of replies) (elements_of reply) whole ∙ one)
