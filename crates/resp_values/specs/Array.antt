-- Which elements are an array (RESP protocol, "Arrays": the number of elements, then one after another).
use Rattle.std.specs.Prelude.{ℕ, zero, suc, ◌+◌, max, List, [], ◌∷◌, ◌++◌, replicate, Bool, true, false}
use Rattle.resp_values.specs.declared.array.Element.{Element}
use Rattle.resp_values.specs.declared.array.Element.TheVariants.{Array}

-- so many replies stand in the list, and nothing else
abbrev pub has_replies : ℕ → List Element → Bool
has_replies zero [] = true
has_replies zero (_ ∷ _) = false
has_replies (suc left) [] = false
has_replies (suc left) (Array len ∷ elements) = has_replies (left + len) elements
has_replies (suc left) (_ ∷ elements) = has_replies left elements

-- the elements are one array
abbrev pub is_array : List Element → Bool
is_array [] = false
is_array (Array len ∷ elements) = has_replies len elements
is_array (_ ∷ _) = false

-- how deep arrays nest, where so deep were met before, and each reply to come stands in so many arrays
abbrev pub deepest : ℕ → List ℕ → List Element → ℕ
deepest most [] [] = most
deepest most [] (_ ∷ _) = most
deepest most (_ ∷ _) [] = most
deepest most (depth ∷ depths) (Array len ∷ elements) = deepest (max most (suc depth)) (replicate len (suc depth) ++ depths) elements
deepest most (depth ∷ depths) (_ ∷ elements) = deepest most depths elements

-- how deep arrays nest in the elements of one reply
abbrev pub depth_of : List Element → ℕ
depth_of elements = deepest 0 (0 ∷ []) elements
