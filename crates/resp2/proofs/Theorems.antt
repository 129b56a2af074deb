-- The crate's laws of spellings.
use Rattle.std.proofs.Common.{◌≡◌, ℕ, List, [], ◌∷◌, ◌++◌, refl, sym, ap, ◌∙◌, append_assoc}
use Rattle.resp2.specs.Law.{NoSpellingBeginsAnother, NoUnfinishedIsWhole, StreamIsReadInOneWay}
use Rattle.resp_header.specs.Reading.{Wants, Found}
use Rattle.resp2.specs.Reading.{reading, reading_words}
use Rattle.resp_values.specs.Request.{request_spelling, KeepsLimits}
use Rattle.resp2.specs.Stream.{stream_spelling, HasNoRequest}
use Rattle.std.specs.List.{AllByRecursion}
use Rattle.resp_values.proofs.Each.{each_by_recursion}
use Rattle.resp2.proofs.SizeLimit.{found_within}
use Rattle.resp2.proofs.WordsDecide.{front_wants, words_are_found}

-- reading is one function, and it finds both
pub no_spelling_begins_another : NoSpellingBeginsAnother
no_spelling_begins_another one other rest more is_one is_other same =
    let first : reading (request_spelling one ++ rest) ≡ Found one rest = found_within one rest is_one in
    let second : reading (request_spelling one ++ rest) ≡ Found other more = ap reading same ∙ found_within other more is_other in
    (cc, cc)

-- what is wanted would be left over
pub no_unfinished_is_whole : NoUnfinishedIsWhole
no_unfinished_is_whole bytes unfinished words rest limits whole =
    let wants : reading_words bytes ≡ Wants = front_wants bytes unfinished.rest unfinished.words unfinished.each unfinished.wanted unfinished.spelled in
    let found : reading_words bytes ≡ Found words rest = ap reading_words whole ∙ words_are_found words rest limits.each in
    cc

-- the first request is one, and so are those behind it
streams_are_one : (requests others : List (List (List ℕ))) (rest more : List ℕ) → AllByRecursion KeepsLimits requests → AllByRecursion KeepsLimits others
    → HasNoRequest rest → HasNoRequest more → stream_spelling requests ++ rest ≡ stream_spelling others ++ more → (requests ≡ others) × (rest ≡ more)
streams_are_one [] [] rest more each all none nothing same = (refl, same)
streams_are_one [] (words ∷ others) rest more each all none nothing same =
    absurd (none words (stream_spelling others ++ more) all.0 (same ∙ append_assoc (request_spelling words) (stream_spelling others) more))
streams_are_one (words ∷ requests) [] rest more each all none nothing same =
    absurd (nothing words (stream_spelling requests ++ rest) each.0 (sym same ∙ append_assoc (request_spelling words) (stream_spelling requests) rest))
streams_are_one (words ∷ requests) (other ∷ others) rest more each all none nothing same =
    let spelled : request_spelling words ++ (stream_spelling requests ++ rest) ≡ request_spelling other ++ (stream_spelling others ++ more) =
    sym (append_assoc (request_spelling words) (stream_spelling requests) rest)
    ∙ same
    ∙ append_assoc (request_spelling other) (stream_spelling others) more in
    let first = no_spelling_begins_another words other (stream_spelling requests ++ rest) (stream_spelling others ++ more) each.0 all.0 spelled in
    let behind = streams_are_one requests others rest more each.1 all.1 none nothing first.1 in
    (cc, behind.1)

pub a_stream_is_read_in_one_way : StreamIsReadInOneWay
a_stream_is_read_in_one_way bytes requests others rest more one other =
    streams_are_one requests others rest more
    (each_by_recursion KeepsLimits requests one.each) (each_by_recursion KeepsLimits others other.each)
    one.none other.none (sym one.spelled ∙ other.spelled)
