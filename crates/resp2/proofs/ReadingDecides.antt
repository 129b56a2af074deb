-- What the reading of bytes says of requests, and of the bytes that may come.
use Rattle.std.proofs.Common.{◌≡◌, ℕ, inl, inr, suc, List, [], ◌∷◌, ◌++◌, drop, sym, ap, subst, ◌∙◌, append_assoc, take-append-drop, arith}
use Rattle.resp_header.specs.declared.fault.Fault.{Fault}
use Rattle.resp_header.specs.declared.fault.Fault.TheVariants.{Protocol}
use Rattle.resp_values.specs.declared.words.TheConstants.{MOST_REQUEST_BYTES}
use Rattle.resp_values.specs.Request.{request_spelling, KeepsLimits}
use Rattle.resp2.specs.Stream.{stream_spelling, IsBeginning, PassesLimit, SizePasses, HasNoRequest, IsUnfinished}
use Rattle.resp_header.specs.Reading.{Seen, Wants, Bad, Found}
use Rattle.resp2.specs.Reading.{reading, reading_words, within_size, one_past_size, too_many}
use Rattle.resp2.proofs.RequestRoundTrip.{IsDecided}
use Rattle.resp2.proofs.SizeLimit.{SizedMeans, sized_means, found_within, decided_within, long_decided}
use Rattle.resp2.proofs.WordsDecide.{wanting_ends, ending_is_beginning, one_decided, count_passing_decided, length_passing_decided, bad_words_no_beginning}

-- ---- found

pub found_is : (bytes : List ℕ) (words : List (List ℕ)) (rest : List ℕ) → reading bytes ≡ Found words rest → KeepsLimits words × (bytes ≡ request_spelling words ++ rest)
found_is bytes words rest e = subst (SizedMeans bytes) e (sized_means bytes)

pub bad_has_no_request : (bytes : List ℕ) (fault : Fault) → reading bytes ≡ Bad fault → HasNoRequest bytes
bad_has_no_request bytes fault e words rest limits spelled =
    let found : reading bytes ≡ Found words rest = ap reading spelled ∙ found_within words rest limits in
    cc

-- ---- more bytes are wanted

pub waiting_is_unfinished : (bytes : List ℕ) → reading bytes ≡ Wants → IsUnfinished bytes
waiting_is_unfinished bytes e =
    let wants = subst (SizedMeans bytes) e (sized_means bytes) in
    let ends = wanting_ends bytes wants.0 in
    record { words = ends.words; rest = ends.more; each = ends.limits; so_far = wants.1; wanted = ends.wanted; spelled = ends.spelled }

pub waiting_is_beginning : (bytes : List ℕ) → reading bytes ≡ Wants → IsBeginning bytes
waiting_is_beginning bytes e =
    let wants = subst (SizedMeans bytes) e (sized_means bytes) in
    ending_is_beginning bytes (wanting_ends bytes wants.0)

-- ---- a limit that is passed

size_passing_decided : (bytes : List ℕ) → SizePasses bytes → IsDecided (reading bytes)
size_passing_decided bytes p = subst (λ (t : List ℕ). IsDecided (reading t)) (sym p.spelled) (behind p.requests)
  where
    behind : (requests : List (List (List ℕ))) → IsDecided (reading (stream_spelling requests ++ p.front))
    behind [] = let above = p.above in long_decided p.front (omega arith)
    behind (words ∷ requests) =
        let tail : List ℕ = stream_spelling requests ++ p.front in
        subst (λ (t : List ℕ). IsDecided (reading t)) (sym (append_assoc (request_spelling words) (stream_spelling requests) p.front))
        (decided_within (request_spelling words ++ tail) (one_decided words tail))

pub passing_decided : (bytes : List ℕ) → PassesLimit bytes → IsDecided (reading bytes)
passing_decided bytes (inl count) = decided_within bytes (count_passing_decided bytes count)
passing_decided bytes (inr (inl len)) = decided_within bytes (length_passing_decided bytes len)
passing_decided bytes (inr (inr size)) = size_passing_decided bytes size

pub waiting_passes_no_limit : (bytes : List ℕ) → reading bytes ≡ Wants → ¬ PassesLimit bytes
waiting_passes_no_limit bytes e p = subst (λ (s : Seen (List (List ℕ))). IsDecided s) e (passing_decided bytes p)

-- ---- a byte after which no request comes

beginning_of_front : (front rest : List ℕ) → IsBeginning (front ++ rest) → IsBeginning front
beginning_of_front front rest b = record {
  requests = b.requests;
  rest = rest ++ b.rest;
  numbers = b.numbers;
  spelled = sym (append_assoc front rest b.rest) ∙ b.spelled;
}

pub front_of_beginning : (bytes front rest : List ℕ) → bytes ≡ front ++ rest → IsBeginning bytes → IsBeginning front
front_of_beginning bytes front rest split b = beginning_of_front front rest (subst IsBeginning split b)

bad_front : (bytes front rest : List ℕ) → bytes ≡ front ++ rest → reading_words front ≡ Bad Protocol → ¬ IsBeginning bytes
bad_front bytes front rest split bad b = bad_words_no_beginning front bad (front_of_beginning bytes front rest split b)

pub bad_is_no_beginning : (bytes : List ℕ) → reading bytes ≡ Bad Protocol → ¬ IsBeginning bytes
bad_is_no_beginning bytes e = by_size (subst (SizedMeans bytes) e (sized_means bytes))
  where
    one_is_bad : (s : Seen (List (List ℕ))) → too_many s ≡ Bad Protocol → s ≡ Bad Protocol
    one_is_bad Wants is = absurd cc
    one_is_bad (Bad fault) is = is
    one_is_bad (Found words rest) is = absurd cc

    by_size : SizedMeans bytes (Bad Protocol) → ¬ IsBeginning bytes
    by_size (inl bad) = bad_front bytes (within_size bytes) (drop MOST_REQUEST_BYTES bytes) (sym (take-append-drop MOST_REQUEST_BYTES bytes)) bad
    by_size (inr over) =
        bad_front bytes (one_past_size bytes) (drop (suc MOST_REQUEST_BYTES) bytes) (sym (take-append-drop (suc MOST_REQUEST_BYTES) bytes)) (one_is_bad (reading_words (one_past_size bytes)) over.decided)
