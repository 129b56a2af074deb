-- Tests of each element of a list with those behind it.
use Rattle.std.proofs.Common.{◌≡◌, sym, ◌∙◌, ap, ap₂, refl, ℕ, ◌+◌, ◌<◌, Bool, true, false, ◌&&◌, List, [], ◌∷◌, length, get_or, drop, map}
use Rattle.std.specs.List.{list_all}
use Rattle.std.proofs.lemmas.Bool.{and_parts}
use Rattle.std.proofs.lemmas.List.{at_drop_more}
use Rattle.std.proofs.lemmas.List.Folds.{list_all-map}
use Rattle.cluster_config.specs.Config.{all_pairs}

-- the test of one more element, where the others and the rest are still to come
tested : {A : Type 0} (passes : A → Bool) (xs : List A) (i : ℕ) (x : A) (rest whole : Bool) → whole ≡ (list_all passes (drop i xs) && rest) → i < length xs → x ≡ get_or xs i x
    → whole ≡ ((passes x && list_all passes (drop (i + 1) xs)) && rest)
tested passes xs i x rest whole is lt item =
    is ∙ ap (λ b. b && rest) (at_drop_more (list_all passes) xs i x lt ∙ ap (λ y. passes y && list_all passes (drop (i + 1) xs)) (sym item))

pub passes_here : {A : Type 0} (passes : A → Bool) (xs : List A) (i : ℕ) (x : A) (rest whole : Bool) → whole ≡ (list_all passes (drop i xs) && rest) → i < length xs → x ≡ get_or xs i x
    → passes x ≡ true → whole ≡ (list_all passes (drop (i + 1) xs) && rest)
passes_here passes xs i x rest whole is lt item does = tested passes xs i x rest whole is lt item ∙ ap (λ b. (b && list_all passes (drop (i + 1) xs)) && rest) does

pub fails_here : {A : Type 0} (passes : A → Bool) (xs : List A) (i : ℕ) (x : A) (rest whole : Bool) → whole ≡ (list_all passes (drop i xs) && rest) → i < length xs → x ≡ get_or xs i x
    → passes x ≡ false → false ≡ whole
fails_here passes xs i x rest whole is lt item fails = sym (tested passes xs i x rest whole is lt item ∙ ap (λ b. (b && list_all passes (drop (i + 1) xs)) && rest) fails)

module _ {A : Type 0} (test : A → A → Bool) where
  -- a test that follows from another, for elements that pass a third one
  all_again : (holds : A → Bool) (t u : A → Bool) → ((y : A) → holds y ≡ true → t y ≡ true → u y ≡ true) → (xs : List A) → list_all holds xs ≡ true → list_all t xs ≡ true → list_all u xs ≡ true
  all_again holds t u follows [] all passed = refl
  all_again holds t u follows (x ∷ xs) all passed =
      let held = and_parts (holds x) (list_all holds xs) all in
      let does = and_parts (t x) (list_all t xs) passed in
      ap₂ (λ (a : Bool) (b : Bool). a && b) (follows x held.0 does.0) (all_again holds t u follows xs held.1 does.1)

  pub all_pairs-again : (holds : A → Bool) (other : A → A → Bool) → ((x y : A) → holds x ≡ true → holds y ≡ true → test x y ≡ true → other x y ≡ true)
      → (xs : List A) → list_all holds xs ≡ true → all_pairs test xs ≡ true → all_pairs other xs ≡ true
  all_pairs-again holds other follows [] all passed = refl
  all_pairs-again holds other follows (x ∷ xs) all passed =
      let held = and_parts (holds x) (list_all holds xs) all in
      let does = and_parts (list_all (test x) xs) (all_pairs test xs) passed in
      ap₂ (λ (a : Bool) (b : Bool). a && b) (all_again holds (test x) (other x) (λ y at. follows x y held.0 at) xs held.1 does.0) (all_pairs-again holds other follows xs held.1 does.1)

  pub all_pairs-map : {B : Type 0} (f : B → A) (ys : List B) → all_pairs test (map f ys) ≡ all_pairs (λ x y. test (f x) (f y)) ys
  all_pairs-map f [] = refl
  all_pairs-map f (y ∷ ys) = ap₂ (λ (a : Bool) (b : Bool). a && b) (list_all-map (test (f y)) f ys) (all_pairs-map f ys)
