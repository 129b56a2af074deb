-- What is made of each item of a list, while the items are taken out of it.
use Rattle.std.proofs.Common.{◌≡◌, ◌∙◌, List, [], ◌∷◌, ◌++◌, map, sym, ap, append_assoc}

pub moved : {A B : Type 0} (f : A → B) (made after : List B) (all : List A) (first : A) (rest : List A) (whole : List B) → after ≡ made ++ f first ∷ [] → all ≡ first ∷ rest
    → made ++ map f all ≡ whole → after ++ map f rest ≡ whole
moved {A} {B} f made after all first rest whole grown split is =
    ap (λ (made : List B). made ++ map f rest) grown ∙ append_assoc made (f first ∷ []) (map f rest) ∙ ap (λ (all : List A). made ++ map f all) (sym split) ∙ is
