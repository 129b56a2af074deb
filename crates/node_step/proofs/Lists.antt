-- What is contained in lists that are made from others.
use Rattle.std.proofs.Common.{◌≡◌, ◌⊎◌, List, [], ◌∷◌, map, filter, cond, Bool, true, false, Option, Some, None, Contains, refl, sym, ap, subst, ◌∙◌, inl, inr, arith}
use Rattle.std.proofs.lemmas.Bool.{or_parts, and_parts}
use Rattle.std.proofs.lemmas.List.Elements.{Contains-append_cases, Contains-append_right, Contains-push_cases}
use Rattle.std.specs.List.{cons_option, filter_map, flat_map, list_any, list_all}

pub contains_nothing : {X : Type 0} (x : X) → Contains [] x → ⊥
contains_nothing x among = omega (arith, among.1)

pub contains_one : {X : Type 0} (x y : X) → Contains (x ∷ []) y → x ≡ y
contains_one x y among =
    elim (Contains-push_cases [] x y among) [
      | inl none ↦ absurd (contains_nothing y none)
      | inr same ↦ same
    ]

pub contains_first : {X : Type 0} (x : X) (xs : List X) → Contains (x ∷ xs) x
contains_first x xs = (0, omega arith, refl)

pub contains_more : {X : Type 0} (x y : X) (xs : List X) → Contains xs y → Contains (x ∷ xs) y
contains_more x y xs among = Contains-append_right (x ∷ []) xs y among

pub first_or_more : {X : Type 0} (x y : X) (xs : List X) → Contains (x ∷ xs) y → (x ≡ y) ⊎ Contains xs y
first_or_more x y xs among =
    elim (Contains-append_cases (x ∷ []) xs y among) [
      | inl one ↦ inl (contains_one x y one)
      | inr more ↦ inr more
    ]

-- what a list made element by element contains comes from an element
pub from_map : {X Y : Type 0} (f : X → Y) (xs : List X) (y : Y) → Contains (map f xs) y → (x : X) × Contains xs x × (f x ≡ y)
from_map f [] y among = absurd (contains_nothing y among)
from_map f (x ∷ xs) y among =
    elim (first_or_more (f x) y (map f xs) among) [
      | inl same ↦ (x, contains_first x xs, same)
      | inr more ↦ let rest = from_map f xs y more in (rest.0, contains_more x rest.0 xs rest.1, rest.2)
    ]

pub from_flat_map : {X Y : Type 0} (f : X → List Y) (xs : List X) (y : Y) → Contains (flat_map f xs) y → (x : X) × Contains xs x × Contains (f x) y
from_flat_map f [] y among = absurd (contains_nothing y among)
from_flat_map f (x ∷ xs) y among =
    elim (Contains-append_cases (f x) (flat_map f xs) y among) [
      | inl here ↦ (x, contains_first x xs, here)
      | inr more ↦ let rest = from_flat_map f xs y more in (rest.0, contains_more x rest.0 xs rest.1, rest.2)
    ]

-- one more that is found, if it is
pub first_found_or_more : {X Y : Type 0} (h : X → Option Y) (x : X) (xs : List X) (y : Y) → Contains (filter_map h (x ∷ xs)) y → (h x ≡ Some y) ⊎ Contains (filter_map h xs) y
first_found_or_more {Y = Y} h x xs y among = by_first (h x) refl among
  where
    by_first : (o : Option Y) → h x ≡ o → Contains (filter_map h (x ∷ xs)) y → (h x ≡ Some y) ⊎ Contains (filter_map h xs) y
    by_first None is among = inr (subst (λ o. Contains (cons_option o (filter_map h xs)) y) is among)
    by_first (Some z) is among =
        elim (first_or_more z y (filter_map h xs) (subst (λ o. Contains (cons_option o (filter_map h xs)) y) is among)) [
          | inl same ↦ inl (is ∙ ap Some same)
          | inr more ↦ inr more
        ]

-- a test that no element passes
pub no_element : {X : Type 0} (test : X → Bool) (xs : List X) (x : X) → list_any test xs ≡ false → Contains xs x → test x ≡ false
no_element test [] x none among = absurd (contains_nothing x among)
no_element test (y ∷ xs) x none among =
    let parts = or_parts (test y) (list_any test xs) none in
    elim (first_or_more y x xs among) [
      | inl same ↦ ap test (sym same) ∙ parts.0
      | inr more ↦ no_element test xs x parts.1 more
    ]

-- and one that each element passes
pub each_element : {X : Type 0} (test : X → Bool) (xs : List X) (x : X) → list_all test xs ≡ true → Contains xs x → test x ≡ true
each_element test [] x all among = absurd (contains_nothing x among)
each_element test (y ∷ xs) x all among =
    let parts = and_parts (test y) (list_all test xs) all in
    elim (first_or_more y x xs among) [
      | inl same ↦ ap test (sym same) ∙ parts.0
      | inr more ↦ each_element test xs x parts.1 more
    ]

pub mapped : {X Y : Type 0} (f : X → Y) (xs : List X) (x : X) → Contains xs x → Contains (map f xs) (f x)
mapped f [] x among = absurd (contains_nothing x among)
mapped f (y ∷ xs) x among =
    elim (first_or_more y x xs among) [
      | inl same ↦ subst (λ z. Contains (map f (y ∷ xs)) (f z)) same (contains_first (f y) (map f xs))
      | inr more ↦ contains_more (f y) (f x) (map f xs) (mapped f xs x more)
    ]

-- what a filter keeps
pub passed : {X : Type 0} (test : X → Bool) (xs : List X) (x : X) → Contains (filter test xs) x → Contains xs x × (test x ≡ true)
passed test [] x among = absurd (contains_nothing x among)
passed {X = X} test (y ∷ xs) x among = by_test (passed test xs x) (test y) refl among
  where
    by_test : (Contains (filter test xs) x → Contains xs x × (test x ≡ true)) → (b : Bool) → test y ≡ b → Contains (cond b (y ∷ filter test xs) (filter test xs)) x → Contains (y ∷ xs) x × (test x ≡ true)
    by_test others false is among = let rest = others among in (contains_more y x xs rest.0, rest.1)
    by_test others true is among =
        elim (first_or_more y x (filter test xs) among) [
          | inl same ↦ (subst (Contains (y ∷ xs)) same (contains_first y xs), ap test (sym same) ∙ is)
          | inr more ↦ let rest = others more in (contains_more y x xs rest.0, rest.1)
        ]
