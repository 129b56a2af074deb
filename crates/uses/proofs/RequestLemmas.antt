-- What was read so far.
use Rattle.std.proofs.Common.{◌≡◌, ℕ, zero, suc, ◌≤◌, List, [], ◌∷◌, ◌++◌, length, refl, sym, ap, ◌∙◌, append_assoc, append-nil, lit≤, arith}
use Rattle.std.specs.Fmt.{digits}
use Rattle.std.specs.List.{AllByRecursion}
use Rattle.std.specs.Prelude.{replicate}
use Rattle.std.proofs.lemmas.List.Elements.{All-from_recursion, All-nil}
use Rattle.resp2.specs.Law.{IsStream, NoUnfinishedIsWhole, StreamIsReadInOneWay}
use Rattle.resp2.specs.Reader.{ReaderState, Breaks, FailsBy, HandsOut, Waits, empty_requests}
use Rattle.resp_values.specs.Request.{request_spelling, IsRequest, KeepsLimits}
use Rattle.resp2.specs.Stream.{stream_spelling, with_words}
use Rattle.resp_values.specs.declared.words.TheConstants.{MOST_WORD_BYTES}
use Rattle.resp2.proofs.Callers.{none_with_words, stream_spelling-append, stream_spelling-push, with_words-append}
use Rattle.resp_header.specs.declared.fault.Fault.{Fault}
use Rattle.resp_header.specs.declared.fault.Fault.TheVariants.{Protocol, TooLong, Memory}
use Rattle.uses.specs.WholeRequests.{AreAllRequests, AreRefusedBy, AreSpoiltBy}

-- a request without words keeps all limits
pub none_keeps_limits : KeepsLimits []
unfolding digits
none_keeps_limits = record { each = record { few = omega arith; short = All-nil (λ (word : List ℕ). length word ≤ MOST_WORD_BYTES) }; all = lit≤ tt }

-- requests keep the limits where those with words do
pub all_keep_limits : (requests : List (List (List ℕ))) → AllByRecursion IsRequest (with_words requests) → AllByRecursion KeepsLimits requests
all_keep_limits [] each = tt
all_keep_limits ([] ∷ requests) each = (none_keeps_limits, all_keep_limits requests each)
all_keep_limits ((word ∷ words) ∷ requests) each = (each.0.limits, all_keep_limits requests each.1)

-- the bytes are requests, those with words being these, and then `rest`
pub record AreRead (input : List ℕ) (requests : List (List (List ℕ))) (rest : List ℕ) : Type 0 where
  pub all : List (List (List ℕ))
  pub spelled : input ≡ stream_spelling all ++ rest
  pub are : with_words all ≡ requests
  pub each : AllByRecursion KeepsLimits all

each_empty : (count : ℕ) → AllByRecursion KeepsLimits (replicate count [])
each_empty zero = tt
each_empty (suc count) = (none_keeps_limits, each_empty count)

each_both : (xs ys : List (List (List ℕ))) → AllByRecursion KeepsLimits xs → AllByRecursion KeepsLimits ys → AllByRecursion KeepsLimits (xs ++ ys)
each_both [] ys p q = q
each_both (x ∷ xs) ys p q = (p.0, each_both xs ys p.1 q)

-- some without words
pub some_over : (input : List ℕ) (requests : List (List (List ℕ))) (pending later : List ℕ) (count : ℕ)
    → AreRead input requests pending → pending ≡ empty_requests count ++ later → AreRead input requests later
some_over input requests pending later count so_far over =
    record {
      all = so_far.all ++ replicate count [];
      spelled = so_far.spelled ∙ ap (λ bytes. stream_spelling so_far.all ++ bytes) over
          ∙ sym (append_assoc (stream_spelling so_far.all) (empty_requests count) later)
          ∙ ap (λ bytes. bytes ++ later) (sym (stream_spelling-append so_far.all (replicate count [])));
      are = with_words-append so_far.all (replicate count []) ∙ ap (λ ws. with_words so_far.all ++ ws) (none_with_words count)
          ∙ append-nil (with_words so_far.all) ∙ so_far.are;
      each = each_both so_far.all (replicate count []) so_far.each (each_empty count);
    }

with_one : (words : List (List ℕ)) → IsRequest words → with_words (words ∷ []) ≡ words ∷ []
with_one [] request = absurd (let some = request.some in omega arith)
with_one (word ∷ words) request = refl

-- one more
pub one_more : (input : List ℕ) (requests : List (List (List ℕ))) (words : List (List ℕ)) (old new : ReaderState)
    → AreRead input requests old.pending → HandsOut old words new → AreRead input (requests ++ words ∷ []) new.pending
one_more input requests words old new before hands =
    let so_far = some_over input requests old.pending (request_spelling words ++ new.pending) hands.count before
    (hands.consumed ∙ append_assoc (empty_requests hands.count) (request_spelling words) new.pending) in
    record {
      all = so_far.all ++ words ∷ [];
      spelled = so_far.spelled
          ∙ sym (append_assoc (stream_spelling so_far.all) (request_spelling words) new.pending)
          ∙ ap (λ bytes. bytes ++ new.pending) (sym (stream_spelling-push so_far.all words));
      are = with_words-append so_far.all (words ∷ []) ∙ ap (λ ws. ws ++ with_words (words ∷ [])) so_far.are
          ∙ ap (λ ws. requests ++ ws) (with_one words hands.request);
      each = each_both so_far.all (words ∷ []) so_far.each (hands.request.limits, tt);
    }

-- the reader waits for more
pub all_read : (input : List ℕ) (requests : List (List (List ℕ))) (old new : ReaderState) → NoUnfinishedIsWhole → StreamIsReadInOneWay
    → AreRead input requests old.pending → Waits old new → AreAllRequests input requests
all_read input requests old new none_whole one_way before waits =
    let so_far = some_over input requests old.pending new.pending waits.passes_over.count before waits.passes_over.consumed in
    let stream : IsStream input so_far.all new.pending =
    record { spelled = so_far.spelled; each = All-from_recursion KeepsLimits so_far.all so_far.each; none = none_whole new.pending waits.unfinished } in
    record {
      all = so_far.all;
      rest = new.pending;
      stream = stream;
      unfinished = waits.unfinished;
      are = so_far.are;
      only = λ others more other. ap with_words (one_way input others so_far.all more new.pending other stream).0 ∙ so_far.are;
    }

-- a bad byte comes behind what was read
spoilt_by : (fault : Fault) (input : List ℕ) (requests : List (List (List ℕ))) (old new : ReaderState) → AreRead input requests old.pending → Breaks fault old new → AreSpoiltBy fault input
spoilt_by fault input requests old new before breaks =
    let so_far = some_over input requests old.pending new.pending breaks.passes_over.count before breaks.passes_over.consumed in
    record {
      requests = so_far.all;
      rest = new.pending;
      stream = record { spelled = so_far.spelled; each = All-from_recursion KeepsLimits so_far.all so_far.each; none = breaks.none };
      bad = breaks.first;
    }

pub refused_by : (fault : Fault) (input : List ℕ) (requests : List (List (List ℕ))) (old new : ReaderState) → AreRead input requests old.pending → FailsBy fault old new → AreRefusedBy fault input
refused_by Memory input requests old new before fails = tt
refused_by Protocol input requests old new before fails = spoilt_by Protocol input requests old new before fails
refused_by TooLong input requests old new before fails = spoilt_by TooLong input requests old new before fails
