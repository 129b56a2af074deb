-- How long the spellings are.
use Rattle.std.proofs.Common.{◌≡◌, ℕ, ◌+◌, ◌<◌, ◌≤◌, List, [], ◌∷◌, ◌++◌, length, take, drop, get_or, ap, arith}
use Rattle.std.proofs.lemmas.List.{length-append, take_more, take-append-drop}
use Rattle.resp_values.specs.Request.{crlf, header_spelling, bulk_spelling, bulks_spelling, request_spelling}

pub bulk_len : (word : List ℕ) → length (bulk_spelling word) ≡ length (header_spelling 36 (length word)) + length word + 2
bulk_len word =
    omega (arith, length-append (header_spelling 36 (length word) ++ word) crlf, length-append (header_spelling 36 (length word)) word)

pub request_len : (words : List (List ℕ)) → length (request_spelling words) ≡ length (header_spelling 42 (length words)) + length (bulks_spelling words)
request_len words = length-append (header_spelling 42 (length words)) (bulks_spelling words)

pub bulks_len-append : (xs ys : List (List ℕ)) → length (bulks_spelling (xs ++ ys)) ≡ length (bulks_spelling xs) + length (bulks_spelling ys)
bulks_len-append [] ys = omega arith
bulks_len-append (x ∷ xs) ys =
    omega (arith, bulks_len-append xs ys, length-append (bulk_spelling x) (bulks_spelling (xs ++ ys)), length-append (bulk_spelling x) (bulks_spelling xs))

pub bulks_len-front : (i : ℕ) (words : List (List ℕ)) → length (bulks_spelling (take i words)) ≤ length (bulks_spelling words)
bulks_len-front i words =
    omega (arith, ap (λ (ws : List (List ℕ)). length (bulks_spelling ws)) (take-append-drop i words), bulks_len-append (take i words) (drop i words))

-- with one word more
pub bulks_len-more : (words : List (List ℕ)) (i : ℕ) (d : List ℕ) → i < length words
    → length (bulks_spelling (take (i + 1) words)) ≡ length (bulks_spelling (take i words)) + length (bulk_spelling (get_or words i d))
bulks_len-more words i d lt =
    omega (arith, ap (λ (ws : List (List ℕ)). length (bulks_spelling ws)) (take_more words i d lt), bulks_len-append (take i words) (get_or words i d ∷ []), length-append (bulk_spelling (get_or words i d)) [])
