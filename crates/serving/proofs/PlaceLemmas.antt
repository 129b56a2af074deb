-- Places that take what belongs to them out of a list.
use Rattle.std.proofs.Common.{◌≡◌, ◌∙◌, List, [], ◌∷◌, ◌++◌, map, sym, ap, append_assoc}
use Rattle.std.proofs.lemmas.List.{map_push}

pub one_more_place : {A B : Type 0} (own : A → B) (places after : List A) (place : A) (left rest whole : List B) → after ≡ places ++ place ∷ [] → left ≡ own place ∷ rest
    → map own places ++ left ≡ whole → map own after ++ rest ≡ whole
one_more_place {A} {B} own places after place left rest whole grown split is =
    ap (λ (all : List A). map own all ++ rest) grown ∙ ap (λ (all : List B). all ++ rest) (map_push own places place) ∙ append_assoc (map own places) (own place ∷ []) rest
    ∙ ap (λ (all : List B). map own places ++ all) (sym split) ∙ is
