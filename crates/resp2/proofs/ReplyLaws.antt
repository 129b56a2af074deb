-- The laws of the spellings of replies.
use Rattle.std.proofs.Common.{◌≡◌, ℕ, ◌<◌, ◌++◌, List, [], ◌∷◌, length, refl, sym, ap, subst, ◌∙◌, append_assoc, append-nil, arith}
use Rattle.std.specs.List.{AllByRecursion}
use Rattle.std.proofs.lemmas.List.{length-append}
use Rattle.resp2.specs.Law.{NoReplyBeginsAnother, RepliesAreReadInOneWay, HasReply, ReplyFront, WholeReply, PartOfReply, NoneOfReply, HasReplyFront, HasOneReplyFront, BytesHaveOneReplyFront}
use Rattle.resp_header.specs.Reading.{Seen, Wants, Bad, Found}
use Rattle.resp_values.specs.Reply.{elements_of, reply_spelling}
use Rattle.resp2.specs.ReplyReader.{ReplyKeepsLimits, replies_spelling, IsReplyBeginning, HasFirstBadReplyByte, HasNoReply, IsUnfinishedReply}
use Rattle.resp_values.specs.declared.array.Element.{Element}
use Rattle.resp_header.specs.declared.fault.Fault.{Fault}
use Rattle.resp_values.specs.declared.reply.Reply.{Reply}
use Rattle.resp_values.proofs.ArrayLaws.{same_reply}
use Rattle.resp2.proofs.ReplyDecides.{reading_reply, reply_again, reply_of_found, waits_unfinished, waits_begin, first_bad, no_reply, stays}
use Rattle.resp_values.proofs.Each.{each_by_recursion}

-- reading is one function, and it finds both
pub no_reply_begins_another : NoReplyBeginsAnother
no_reply_begins_another one other rest more is also same =
    let found : Found (elements_of one) rest ≡ Found (elements_of other) more = sym (reply_again one rest is) ∙ ap reading_reply same ∙ reply_again other more also in
    let elements : elements_of one ≡ elements_of other = cc in
    let left : rest ≡ more = cc in
    (same_reply one other is.whole also.whole elements, left)

-- the first reply is one, and so are those behind it
streams_are_one : (replies others : List Reply) (rest more : List ℕ) → AllByRecursion ReplyKeepsLimits replies → AllByRecursion ReplyKeepsLimits others → HasNoReply rest → HasNoReply more
    → replies_spelling replies ++ rest ≡ replies_spelling others ++ more → (replies ≡ others) × (rest ≡ more)
streams_are_one [] [] rest more each all none nothing same = (refl, same)
streams_are_one [] (reply ∷ others) rest more each all none nothing same =
    absurd (none reply (replies_spelling others ++ more) all.0 (same ∙ append_assoc (reply_spelling reply) (replies_spelling others) more))
streams_are_one (reply ∷ replies) [] rest more each all none nothing same =
    absurd (nothing reply (replies_spelling replies ++ rest) each.0 (sym same ∙ append_assoc (reply_spelling reply) (replies_spelling replies) rest))
streams_are_one (reply ∷ replies) (other ∷ others) rest more each all none nothing same =
    let spelled : reply_spelling reply ++ (replies_spelling replies ++ rest) ≡ reply_spelling other ++ (replies_spelling others ++ more) =
    sym (append_assoc (reply_spelling reply) (replies_spelling replies) rest) ∙ same ∙ append_assoc (reply_spelling other) (replies_spelling others) more in
    let first = no_reply_begins_another reply other (replies_spelling replies ++ rest) (replies_spelling others ++ more) each.0 all.0 spelled in
    let behind = streams_are_one replies others rest more each.1 all.1 none nothing first.1 in
    (ap (λ (r : Reply). r ∷ replies) first.0 ∙ ap (λ (t : List Reply). other ∷ t) behind.0, behind.1)

pub replies_are_read_in_one_way : RepliesAreReadInOneWay
replies_are_read_in_one_way bytes replies others rest more one other =
    streams_are_one replies others rest more (each_by_recursion ReplyKeepsLimits replies one.each) (each_by_recursion ReplyKeepsLimits others other.each) one.none other.none (sym one.spelled ∙ other.spelled)

-- ---- what stands in front

some_behind : (bytes more : List ℕ) → bytes ++ more ≡ [] → 0 < length more → ⊥
some_behind bytes more none some = omega (arith, some, ap length none, length-append bytes more)

unfinished_waits : (bytes : List ℕ) → IsUnfinishedReply bytes → reading_reply bytes ≡ Wants
unfinished_waits bytes unfinished = by_reading (reading_reply bytes) refl
  where
    whole : reading_reply (bytes ++ unfinished.rest) ≡ Found (elements_of unfinished.reply) []
    whole = ap reading_reply (unfinished.spelled ∙ sym (append-nil (reply_spelling unfinished.reply))) ∙ reply_again unfinished.reply [] unfinished.limits

    by_reading : (seen : Seen (List Element)) → reading_reply bytes ≡ seen → reading_reply bytes ≡ Wants
    by_reading Wants is = is
    by_reading (Bad fault) is =
        let bad : Bad fault ≡ Found (elements_of unfinished.reply) [] = sym (stays.bad bytes unfinished.rest fault is) ∙ whole in
        absurd cc
    by_reading (Found elements last) is =
        let found : Found elements (last ++ unfinished.rest) ≡ Found (elements_of unfinished.reply) [] = sym (stays.found bytes unfinished.rest elements last is) ∙ whole in
        let none : last ++ unfinished.rest ≡ [] = cc in
        absurd (some_behind last unfinished.rest none unfinished.wanted)

-- what begins a longer list begins it
shorter_begins : (bytes more : List ℕ) → IsReplyBeginning (bytes ++ more) → IsReplyBeginning bytes
shorter_begins bytes more begins =
    record { replies = begins.replies; rest = more ++ begins.rest; each = begins.each; spelled = sym (append_assoc bytes more begins.rest) ∙ begins.spelled }

no_bad : (bytes : List ℕ) → HasFirstBadReplyByte bytes → ¬ IsReplyBeginning bytes
no_bad bytes bad begins = bad.bad (shorter_begins bad.front bad.rest (subst IsReplyBeginning bad.split begins))

pub bytes_have_one_reply_front : BytesHaveOneReplyFront
bytes_have_one_reply_front bytes = by_reading (reading_reply bytes) refl
  where
    whole_found : (reply : HasReply bytes) → reading_reply bytes ≡ Found (elements_of reply.reply) reply.rest
    whole_found reply = ap reading_reply reply.spelled ∙ reply_again reply.reply reply.rest reply.limits

    only_wants : reading_reply bytes ≡ Wants → (other : ReplyFront) → HasReplyFront other bytes → other ≡ PartOfReply
    only_wants is WholeReply has = let found : Wants ≡ Found (elements_of has.reply) has.rest = sym is ∙ whole_found has in absurd cc
    only_wants is PartOfReply has = refl
    only_wants is NoneOfReply has = absurd (no_bad bytes has.0 (waits_begin bytes is))

    only_bad : (fault : Fault) → reading_reply bytes ≡ Bad fault → (other : ReplyFront) → HasReplyFront other bytes → other ≡ NoneOfReply
    only_bad fault is WholeReply has = let found : Bad fault ≡ Found (elements_of has.reply) has.rest = sym is ∙ whole_found has in absurd cc
    only_bad fault is PartOfReply has = let waits : Bad fault ≡ Wants = sym is ∙ unfinished_waits bytes has in absurd cc
    only_bad fault is NoneOfReply has = refl

    only_found : (elements : List Element) (rest : List ℕ) → reading_reply bytes ≡ Found elements rest → HasReply bytes → (other : ReplyFront) → HasReplyFront other bytes → other ≡ WholeReply
    only_found elements rest is reply WholeReply has = refl
    only_found elements rest is reply PartOfReply has = let waits : Found elements rest ≡ Wants = sym is ∙ unfinished_waits bytes has in absurd cc
    only_found elements rest is reply NoneOfReply has = absurd (has.1 reply.reply reply.rest reply.limits reply.spelled)

    by_reading : (seen : Seen (List Element)) → reading_reply bytes ≡ seen → HasOneReplyFront bytes
    by_reading Wants is = record { front = PartOfReply; has = waits_unfinished bytes is; only = only_wants is }
    by_reading (Bad fault) is = record { front = NoneOfReply; has = (first_bad bytes fault is, no_reply bytes fault is); only = only_bad fault is }
    by_reading (Found elements rest) is =
        let of = reply_of_found bytes elements rest is in
        let reply : HasReply bytes = record { reply = of.0; rest = rest; limits = of.1; spelled = of.2 } in
        record { front = WholeReply; has = reply; only = only_found elements rest is reply }
