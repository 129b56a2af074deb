-- Two keys are one or not, and a key is one of several or not.
use Rattle.std.proofs.Common.{◌≡◌, ◌≢◌, ◌<◌, ◌⊎◌, ℕ, Bool, true, List, Contains, sym, ap, subst, ◌∙◌, inl, inr}
use Rattle.std.specs.Map.{keys_of}
use Rattle.std.proofs.lemmas.Bool.{both_ways, cases_Bool}
use Rattle.std.proofs.lemmas.Cmp.{eq_by_cmp_equiv, nat_list_cmp_total}
use Rattle.std.proofs.lemmas.Map.Lookups.{exact_bytes}
use Rattle.std.proofs.lemmas.Map.Views.{tells_apart, Contains-from_any, list_any-from_Contains}
use Rattle.std.specs.Cmp.Lexicographic.{slice_cmp}
use Rattle.std.proofs.lemmas.List.{get_or-map, length-map}
use Rattle.std.specs.List.{list_any}
use Rattle.std.specs.Ordering.{nat_cmp, eq_by_cmp}

abbrev pub is_key : List ℕ → List ℕ → Bool
is_key = eq_by_cmp (slice_cmp nat_cmp)

pub is_key-same : (q k : List ℕ) → is_key q k ≡ true → q ≡ k
is_key-same = tells_apart exact_bytes

pub is_key-refl : (k : List ℕ) → is_key k k ≡ true
is_key-refl = (eq_by_cmp_equiv nat_list_cmp_total).refl

pub one_key_or_two : (q k : List ℕ) → (q ≡ k) ⊎ (q ≢ k)
one_key_or_two q k =
    elim (cases_Bool (is_key q k)) [
      | inl same ↦ inl (is_key-same q k same)
      | inr differ ↦ inr (λ same. both_ways (is_key q k) differ (subst (λ j. is_key q j ≡ true) same (is_key-refl q)))
    ]

pub among_or_not : (keys : List (List ℕ)) (key : List ℕ) → Contains keys key ⊎ ¬ Contains keys key
among_or_not keys key =
    elim (cases_Bool (list_any (is_key key) keys)) [
      | inl found ↦ inl (Contains-from_any is_key-same key keys found)
      | inr none ↦ inr (λ among. both_ways (list_any (is_key key) keys) none (list_any-from_Contains (eq_by_cmp_equiv nat_list_cmp_total) key keys among))
    ]

-- the key of a pair is one of the keys
pub Contains-keys : {X : Type 0} (pairs : List (List ℕ × X)) (key : List ℕ) (x : X) → Contains pairs (key, x) → Contains (keys_of pairs) key
Contains-keys {X} pairs key x (place, within, is) = (
  place,
  subst (λ (n : ℕ). place < n) (sym (length-map pairs (λ (e : List ℕ × X). e.0))) within,
  get_or-map (λ (e : List ℕ × X). e.0) pairs place (key, x) key within ∙ ap (λ (e : List ℕ × X). e.0) is,
)
