-- The pair of a field in a list, by its place.
use Rattle.std.proofs.Common.{◌≡◌, ◌<◌, ℕ, Bool, true, false, cond, not, ltb, List, [], ◌∷◌, ◌++◌, Some, None, length, take, drop, set, get_or, refl, ap, ◌∙◌, arith, if◌then◌else◌}
use Rattle.std.specs.Prelude.{position, zero, suc}
use Rattle.std.specs.Cmp.Lexicographic.{pointwise}
use Rattle.std.specs.List.{position_or_len}
use Rattle.std.specs.Prelude.{nat_eq}
use Rattle.std.specs.Map.{remove_entry}
use Rattle.std.proofs.lemmas.Bool.{ltb-false}
use Rattle.std.proofs.lemmas.List.Quantifiers.{position-Some}
use Rattle.std.proofs.lemmas.List.Sums.{prefix_len_passes}
use Rattle.indexmap.specs.IndexMap.{insert_entry}
use Rattle.hash.specs.Entries.{is_of}
use Rattle.hash.specs.Pairs.{Pairs, value_of, field_changed}

-- the field's pair stands at the place
pub record Stands (pairs : Pairs) (field : List ℕ) (place : ℕ) (default : List ℕ × List ℕ) : Type 0 where
  pub value : value_of pairs field ≡ Some (get_or pairs place default).1
  pub set_there : (value : List ℕ) → field_changed pairs field (Some value) ≡ set pairs place ((get_or pairs place default).0, value)
  pub removed : field_changed pairs field None ≡ take place pairs ++ drop (suc place) pairs

first_is : (pairs : Pairs) (field : List ℕ) (place : ℕ) (default : List ℕ × List ℕ) → place < length pairs
    → is_of field (get_or pairs place default) ≡ true → ((k : ℕ) → k < place → is_of field (get_or pairs k default) ≡ false)
    → Stands pairs field place default
first_is [] field place default within here before = absurd (omega arith)
first_is (pair ∷ pairs) field zero default within here before = record {
  value = ap (λ (b : Bool). cond b (Some pair.1) (value_of pairs field)) here;
  set_there = λ value. ap (λ (b : Bool). if b then (pair.0, value) ∷ pairs else pair ∷ insert_entry (pointwise nat_eq) pairs field value) here;
  removed = ap (λ (b : Bool). cond b pairs (pair ∷ remove_entry (pointwise nat_eq field) pairs)) here;
}
first_is (pair ∷ pairs) field (suc place) default within here before =
    let other : is_of field pair ≡ false = before 0 (omega arith) in
    let rest = first_is pairs field place default (omega arith) here (λ k below. before (suc k) (omega arith)) in
    record {
      value = ap (λ (b : Bool). cond b (Some pair.1) (value_of pairs field)) other ∙ rest.value;
      set_there = λ value.
          ap (λ (b : Bool). if b then (pair.0, value) ∷ pairs else pair ∷ insert_entry (pointwise nat_eq) pairs field value) other
          ∙ ap (λ (others : Pairs). pair ∷ others) (rest.set_there value);
      removed = ap (λ (b : Bool). cond b pairs (pair ∷ remove_entry (pointwise nat_eq field) pairs)) other ∙ ap (λ (others : Pairs). pair ∷ others) rest.removed;
    }

pub stands_at : (pairs : Pairs) (field : List ℕ) (place : ℕ) (default : List ℕ × List ℕ) → position (is_of field) pairs ≡ Some place
    → Stands pairs field place default
stands_at pairs field place default is =
    let first = position-Some (is_of field) pairs place default is in
    first_is pairs field place default first.0 first.1 first.2

-- no pair is the field's
pub record IsMissing (pairs : Pairs) (field : List ℕ) : Type 0 where
  pub value : value_of pairs field ≡ None
  pub put_last : (value : List ℕ) → field_changed pairs field (Some value) ≡ pairs ++ (field, value) ∷ []
  pub same : field_changed pairs field None ≡ pairs

others_alone : (pairs : Pairs) (field : List ℕ) → ((k : ℕ) (default : List ℕ × List ℕ) → k < length pairs → is_of field (get_or pairs k default) ≡ false)
    → IsMissing pairs field
others_alone [] field others = record { value = refl; put_last = λ value. refl; same = refl }
others_alone (pair ∷ pairs) field others =
    let other : is_of field pair ≡ false = others 0 pair (omega arith) in
    let rest = others_alone pairs field (λ k default below. others (suc k) default (omega arith)) in
    record {
      value = ap (λ (b : Bool). cond b (Some pair.1) (value_of pairs field)) other ∙ rest.value;
      put_last = λ value.
          ap (λ (b : Bool). if b then (pair.0, value) ∷ pairs else pair ∷ insert_entry (pointwise nat_eq) pairs field value) other
          ∙ ap (λ (others : Pairs). pair ∷ others) (rest.put_last value);
      same = ap (λ (b : Bool). cond b pairs (pair ∷ remove_entry (pointwise nat_eq field) pairs)) other ∙ ap (λ (others : Pairs). pair ∷ others) rest.same;
    }

not_passed : (passes : Bool) → not passes ≡ true → passes ≡ false
not_passed true is = cc
not_passed false is = refl

pub missing_from : (pairs : Pairs) (field : List ℕ) → position (is_of field) pairs ≡ None → IsMissing pairs field
missing_from pairs field none =
    elim (ltb (position_or_len (is_of field) pairs) (length pairs)) as (λ b. ltb (position_or_len (is_of field) pairs) (length pairs) ≡ b
    → cond b (Some (position_or_len (is_of field) pairs)) None ≡ None → IsMissing pairs field) [
      | true ↦ λ within is. cc
      | false ↦ λ past is. others_alone pairs field (λ k default below.
          not_passed (is_of field (get_or pairs k default)) (prefix_len_passes (λ pair. not (is_of field pair)) pairs k default (omega (arith, ltb-false _ _ past))))
    ] refl none
