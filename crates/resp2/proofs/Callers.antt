-- What callers need of streams of requests.
use Rattle.std.proofs.Common.{◌≡◌, ℕ, zero, suc, List, [], ◌∷◌, ◌++◌, refl, sym, ap, ◌∙◌, append_assoc}
use Rattle.std.proofs.lemmas.List.{append-nil}
use Rattle.std.specs.Prelude.{replicate}
use Rattle.resp_values.specs.Request.{request_spelling}
use Rattle.resp2.specs.Stream.{stream_spelling, with_words}

pub stream_spelling-append : (front requests : List (List (List ℕ))) → stream_spelling (front ++ requests) ≡ stream_spelling front ++ stream_spelling requests
stream_spelling-append [] requests = refl
stream_spelling-append (words ∷ front) requests =
    ap (λ (t : List ℕ). request_spelling words ++ t) (stream_spelling-append front requests)
    ∙ sym (append_assoc (request_spelling words) (stream_spelling front) (stream_spelling requests))

-- one more request at the end
pub stream_spelling-push : (front : List (List (List ℕ))) (words : List (List ℕ)) → stream_spelling (front ++ words ∷ []) ≡ stream_spelling front ++ request_spelling words
stream_spelling-push front words =
    stream_spelling-append front (words ∷ []) ∙ ap (λ (t : List ℕ). stream_spelling front ++ t) (append-nil (request_spelling words))

-- ---- requests with words

pub with_words-append : (front requests : List (List (List ℕ))) → with_words (front ++ requests) ≡ with_words front ++ with_words requests
with_words-append [] requests = refl
with_words-append ([] ∷ front) requests = with_words-append front requests
with_words-append ((word ∷ words) ∷ front) requests = ap (λ (t : List (List (List ℕ))). (word ∷ words) ∷ t) (with_words-append front requests)

pub none_with_words : (count : ℕ) → with_words (replicate count []) ≡ []
none_with_words zero = refl
none_with_words (suc count) = none_with_words count
