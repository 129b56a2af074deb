-- Spellings, and the same with what follows them.
use Rattle.std.proofs.Common.{◌≡◌, ℕ, List, [], ◌∷◌, ◌++◌, length, refl, ap, ◌∙◌, append_assoc}
use Rattle.std.specs.Prelude.{decimal}
use Rattle.resp_values.specs.Request.{crlf, header_spelling, bulk_spelling, bulks_spelling, request_spelling}
use Rattle.resp_header.specs.Reading.{header_onto}
use Rattle.resp2.specs.Reading.{bulk_onto, bulks_onto, request_onto}

pub header_spelling-onto : (mark n : ℕ) (rest : List ℕ) → header_spelling mark n ++ rest ≡ header_onto mark n rest
header_spelling-onto mark n rest = ap (λ (t : List ℕ). mark ∷ t) (append_assoc (decimal n) crlf rest)

pub bulk_spelling-onto : (word rest : List ℕ) → bulk_spelling word ++ rest ≡ bulk_onto word rest
bulk_spelling-onto word rest =
    append_assoc (header_spelling 36 (length word) ++ word) crlf rest
    ∙ append_assoc (header_spelling 36 (length word)) word (crlf ++ rest)
    ∙ header_spelling-onto 36 (length word) (word ++ (crlf ++ rest))

pub bulks_spelling-onto : (words : List (List ℕ)) (rest : List ℕ) → bulks_spelling words ++ rest ≡ bulks_onto words rest
bulks_spelling-onto [] rest = refl
bulks_spelling-onto (word ∷ words) rest =
    append_assoc (bulk_spelling word) (bulks_spelling words) rest
    ∙ ap (λ (t : List ℕ). bulk_spelling word ++ t) (bulks_spelling-onto words rest)
    ∙ bulk_spelling-onto word (bulks_onto words rest)

pub request_spelling-onto : (words : List (List ℕ)) (rest : List ℕ) → request_spelling words ++ rest ≡ request_onto words rest
request_spelling-onto words rest =
    append_assoc (header_spelling 42 (length words)) (bulks_spelling words) rest
    ∙ ap (λ (t : List ℕ). header_spelling 42 (length words) ++ t) (bulks_spelling-onto words rest)
    ∙ header_spelling-onto 42 (length words) (bulks_onto words rest)
