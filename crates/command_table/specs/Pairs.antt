-- Words that come in pairs (Redis command reference: `key value [key value ...]`, `field value [field value ...]`).
use Rattle.std.specs.Prelude.{List, [], ◌∷◌, ℕ, Option, Some, None, ⊤}
use Rattle.std.specs.Option.{option_map}

-- the words two by two, or None where one is left over
abbrev pub pairs_of : List (List ℕ) → Option (List (List ℕ × List ℕ))
pairs_of [] = Some []
pairs_of (word ∷ []) = None
pairs_of (first ∷ second ∷ words) = option_map (λ pairs. (first, second) ∷ pairs) (pairs_of words)

-- the same, without the word that is left over
abbrev pub pairs_in : List (List ℕ) → List (List ℕ × List ℕ)
pairs_in [] = []
pairs_in (word ∷ []) = []
pairs_in (first ∷ second ∷ words) = (first, second) ∷ pairs_in words

-- there is no pair, or a word is left over
abbrev pub IsNoPair : Option (List (List ℕ × List ℕ)) → Type 0
IsNoPair None = ⊤
IsNoPair (Some []) = ⊤
IsNoPair (Some (pair ∷ pairs)) = ⊥
