-- The longest front of a list that passes a test.
use Rattle.std.proofs.Common.{◌≡◌, ◌⊎◌, ◌≤◌, ℕ, zero, suc, Bool, true, false, cond, List, [], ◌∷◌, ◌++◌, length, take, Option, Some, None, inl, inr, refl, ap, ◌∙◌, arith}
use Rattle.std.specs.Prelude.{map, find}
use Rattle.std.proofs.lemmas.Bool.{cond-true, cond-false, false_from_ne_true, both_ways}
use Rattle.std.proofs.lemmas.List.Folds.{find-append}
use Rattle.std.specs.Option.{option_or}
use Rattle.resharder.specs.Migration.{fronts}

module _ {X : Type 0} where
  -- whatever passes, passes without what stands at its end
  abbrev pub PassesShorter : (List X → Bool) → Type 0
  PassesShorter passes = (front more : List X) → passes (front ++ more) ≡ true → passes front ≡ true

  none_behind : (passes : List X → Bool) (x : X) → ((front : List X) → passes (x ∷ front) ≡ false) → (some : List (List X)) → find passes (map (λ front. x ∷ front) some) ≡ None
  none_behind passes x fails [] = refl
  none_behind passes x fails (front ∷ some) = cond-false _ _ _ (fails front) ∙ none_behind passes x fails some

  found_or_later : (b : Bool) (x : X) (one front : List X) (others longer : Option (List X)) → cond b (Some one) others ≡ Some front → (others ≡ Some front → longer ≡ Some (x ∷ front)) → cond b (Some (x ∷ one)) longer ≡ Some (x ∷ front)
  found_or_later true x one front others longer is later = cc
  found_or_later false x one front others longer is later = later is

  found_behind : (passes : List X → Bool) (x : X) (front : List X) (some : List (List X)) → find (λ front. passes (x ∷ front)) some ≡ Some front → find passes (map (λ front. x ∷ front) some) ≡ Some (x ∷ front)
  found_behind passes x front [] is = cc
  found_behind passes x front (one ∷ some) is = found_or_later (passes (x ∷ one)) x one front _ _ is (found_behind passes x front some)

  -- a front passes, and one with one element more doesn't, if there is one more
  pub longest_front : (passes : List X → Bool) → PassesShorter passes → (xs : List X) (n : ℕ) → passes (take n xs) ≡ true → (passes (take (suc n) xs) ≡ false) ⊎ (length xs ≤ n) → find passes (fronts xs) ≡ Some (take n xs)
  longest_front passes shorter [] zero pass end = cond-true _ _ _ pass
  longest_front passes shorter [] (suc n) pass end = cond-true _ _ _ pass
  longest_front passes shorter (x ∷ xs) zero pass (inl fails) =
      let none : find passes (map (λ front. x ∷ front) (fronts xs)) ≡ None = none_behind passes x (λ front. false_from_ne_true _ (λ longer. both_ways _ fails (shorter (x ∷ []) front longer))) (fronts xs) in
      find-append passes (map (λ front. x ∷ front) (fronts xs)) ([] ∷ []) ∙ ap (λ (o : Option (List X)). option_or o (find passes ([] ∷ []))) none ∙ cond-true _ _ _ pass
  longest_front passes shorter (x ∷ xs) zero pass (inr few) = absurd (omega (arith, few))
  longest_front passes shorter (x ∷ xs) (suc n) pass end =
      let found : find passes (map (λ front. x ∷ front) (fronts xs)) ≡ Some (x ∷ take n xs) = found_behind passes x (take n xs) (fronts xs) (longest_front (λ front. passes (x ∷ front)) (λ front more. shorter (x ∷ front) more) xs n pass (behind end)) in
      find-append passes (map (λ front. x ∷ front) (fronts xs)) ([] ∷ []) ∙ ap (λ (o : Option (List X)). option_or o (find passes ([] ∷ []))) found
    where
      behind : (passes (x ∷ take (suc n) xs) ≡ false) ⊎ (length (x ∷ xs) ≤ suc n) → (passes (x ∷ take (suc n) xs) ≡ false) ⊎ (length xs ≤ n)
      behind (inl fails) = inl fails
      behind (inr few) = inr (omega (arith, few))
