-- What changes of fields leave, told by the fields that they name.
use Rattle.std.proofs.Common.{◌≡◌, ℕ, suc, ◌+◌, ◌-◌, List, [], ◌∷◌, ◌++◌, length, Bool, true, false, cond, nat_eq, if◌then◌else◌, Option, Some, None, ◌||◌, refl, sym, ap, subst, ◌∙◌, arith}
use Rattle.std.proofs.lemmas.Bool.{true≢false, false≢true}
use Rattle.std.proofs.lemmas.Bool.Decides.{nat_tests}
use Rattle.std.proofs.lemmas.List.Sums.{sum_by-cons}
use Rattle.std.specs.Cmp.Lexicographic.{pointwise, nat_list_eq_equiv}
use Rattle.std.specs.List.{AllByRecursion, IsDistinct, list_any, slice_get}
use Rattle.std.specs.Map.{keys_of}
use Rattle.std.specs.Prelude.{count_by, is_some, nat_lt}
use Rattle.hash.proofs.DistinctLemmas.{distinct-changed}
use Rattle.hash.proofs.Foreseen.{length-changed, value-changed}
use Rattle.hash.specs.Pairs.{Pairs, Changes, HasDistinctFields, field_changed, fields_changed, value_of}
use Rattle.hash.specs.Sized.{count_of}
use Rattle.indexmap.specs.IndexMap.{insert_entry}
use Rattle.indexmap.specs.IndexSet.{insert_key}
use Rattle.keyspace.specs.Hashes.{known, removals, sets}
use Rattle.keyspace.specs.Keyspace.{fields_left, hash_of}
use Rattle.keyspace.specs.PlannedFields.{IsPlanned, RemovesEach, is_set, sets_last}
use Rattle.keyspace.specs.declared.value.Value.{Value}
use Rattle.keyspace.specs.declared.value.Value.TheVariants.{Str, Hash}

-- a missing hash has no field twice
pub missing_distinct : (hash : Option Pairs) → hash ≡ None → HasDistinctFields (known hash)
unfolding IsDistinct
missing_distinct None is = tt
missing_distinct (Some pairs) is = absurd (cc)

-- ---- fields that are removed

none_twice : (b c : Bool) (value : Option (List ℕ)) → cond c None (cond b None value) ≡ cond (b || c) None value
none_twice true true value = refl
none_twice true false value = refl
none_twice false true value = refl
none_twice false false value = refl

-- the value of a field once fields were removed
value_removed : (names : List (List ℕ)) (pairs : Pairs) (field : List ℕ) → HasDistinctFields pairs → value_of (fields_changed pairs (removals names)) field ≡ cond (list_any (pointwise nat_eq field) names) None (value_of pairs field)
value_removed [] pairs field distinct = refl
value_removed (name ∷ names) pairs field distinct =
    value_removed names (field_changed pairs name None) field (distinct-changed pairs name None distinct)
    ∙ ap (cond (list_any (pointwise nat_eq field) names) None) (value-changed pairs name None field distinct ∙ ap (λ b. cond b None (value_of pairs field)) (nat_list_eq_equiv.symm name field))
    ∙ none_twice (pointwise nat_eq field name) (list_any (pointwise nat_eq field) names) (value_of pairs field)

-- a field that is missing is removed
missing_removed : (pairs : Pairs) (field : List ℕ) → value_of pairs field ≡ None → field_changed pairs field None ≡ pairs
missing_removed [] field none = refl
missing_removed (pair ∷ pairs) field none =
    elim (pointwise nat_eq field pair.0) as (λ b. cond b (Some pair.1) (value_of pairs field) ≡ None → cond b pairs (pair ∷ field_changed pairs field None) ≡ pair ∷ pairs) [
      | true ↦ λ some. absurd (cc)
      | false ↦ λ rest. ap (λ left. pair ∷ left) (missing_removed pairs field rest)
    ] none

-- one more field is removed
one_more_removed : (pairs : Pairs) (names : List (List ℕ)) (name : List ℕ) → fields_changed pairs (removals (names ++ name ∷ [])) ≡ field_changed (fields_changed pairs (removals names)) name None
one_more_removed pairs [] name = refl
one_more_removed pairs (first ∷ names) name = one_more_removed (field_changed pairs first None) names name

-- one more field is named, and removed where it is named first
pub once_more : (names fields : List (List ℕ)) (name : List ℕ) → ((pairs : Pairs) → HasDistinctFields pairs → fields_changed pairs (removals names) ≡ fields_changed pairs (removals fields))
    → (pairs : Pairs) → HasDistinctFields pairs → fields_changed pairs (removals (insert_key (pointwise nat_eq) names name)) ≡ fields_changed pairs (removals (fields ++ name ∷ []))
once_more names fields name same pairs distinct =
    elim (list_any (pointwise nat_eq name) names) as (λ b. list_any (pointwise nat_eq name) names ≡ b → fields_changed pairs (removals (if b then names else names ++ name ∷ [])) ≡ fields_changed pairs (removals (fields ++ name ∷ []))) [
      | true ↦ λ again.
          same pairs distinct
          ∙ sym (one_more_removed pairs fields name
          ∙ missing_removed (fields_changed pairs (removals fields)) name
          (ap (λ left. value_of left name) (sym (same pairs distinct)) ∙ value_removed names pairs name distinct ∙ ap (λ b. cond b None (value_of pairs name)) again))
      | false ↦ λ first. one_more_removed pairs names name ∙ ap (λ left. field_changed left name None) (same pairs distinct) ∙ sym (one_more_removed pairs fields name)
    ] refl

-- the field of each change, where the hash has it
abbrev there : Pairs → List ℕ × Option (List ℕ) → Bool
there pairs change = is_some (value_of pairs change.0)

counted_first : (test : List ℕ × Option (List ℕ) → Bool) (change : List ℕ × Option (List ℕ)) (changes : Changes) → count_by test (change ∷ changes) ≡ cond (test change) 1 0 + count_by test changes
counted_first test change changes = sum_by-cons (λ x. cond (test x) 1 0) change changes

-- a field that is removed is none of the others
others_there : (pairs : Pairs) (name : List ℕ) (names : List (List ℕ)) → HasDistinctFields pairs → AllByRecursion (λ other. pointwise nat_eq name other ≡ false) names
    → count_by (there (field_changed pairs name None)) (removals names) ≡ count_by (there pairs) (removals names)
others_there pairs name [] distinct apart = refl
others_there pairs name (other ∷ names) distinct apart =
    counted_first (there (field_changed pairs name None)) (other, None) (removals names)
    ∙ ap (λ value. cond (is_some value) 1 0 + count_by (there (field_changed pairs name None)) (removals names)) (value-changed pairs name None other distinct ∙ ap (λ b. cond b None (value_of pairs other)) apart.0)
    ∙ ap (λ n. cond (is_some (value_of pairs other)) 1 0 + n) (others_there pairs name names distinct apart.1)
    ∙ sym (counted_first (there pairs) (other, None) (removals names))

count_as : (value : Option (List ℕ)) → count_of value ≡ cond (is_some value) 1 0
count_as None = refl
count_as (Some value) = refl

-- as many fields are removed as are there
removed_there : (names : List (List ℕ)) (pairs : Pairs) → HasDistinctFields pairs → IsDistinct (pointwise nat_eq) names → count_by (there pairs) (removals names) + length (fields_changed pairs (removals names)) ≡ length pairs
unfolding IsDistinct
removed_there [] pairs distinct apart = omega arith
removed_there (name ∷ names) pairs distinct apart =
    let rest = removed_there names (field_changed pairs name None) (distinct-changed pairs name None distinct) apart.1 in
    let first = length-changed pairs name None in
    let is = count_as (value_of pairs name) in
    let others = others_there pairs name names distinct apart.0 in
    let all : count_by (there pairs) (removals (name ∷ names)) ≡ cond (is_some (value_of pairs name)) 1 0 + count_by (there pairs) (removals names) = counted_first (there pairs) (name, None) (removals names) in
    omega (arith, rest, first, is, others, all)

pub each_removed : (changes : Changes) (pairs : Pairs) → HasDistinctFields pairs → RemovesEach changes → count_by (there pairs) changes + length (fields_changed pairs changes) ≡ length pairs
each_removed changes pairs distinct each =
    ap (λ made. count_by (there pairs) made + length (fields_changed pairs made)) each.removes ∙ removed_there (keys_of changes) pairs distinct each.distinct

later_change : (change next : List ℕ × Option (List ℕ)) (changes : Changes) → sets_last (change ∷ next ∷ changes) ≡ sets_last (next ∷ changes)
later_change change next changes =
    let long : length (change ∷ next ∷ changes) - 1 ≡ suc (length changes) = omega arith in
    let short : length changes ≡ length (next ∷ changes) - 1 = omega arith in
    ap (λ n. is_set (slice_get (change ∷ next ∷ changes) n)) long ∙ ap (λ n. is_set (slice_get (next ∷ changes) n)) short

removals_set : (names : List (List ℕ)) → sets_last (removals names) ≡ false
removals_set [] = refl
removals_set (name ∷ []) = refl
removals_set (name ∷ next ∷ names) = later_change (name, None) (next, None) (removals names) ∙ removals_set (next ∷ names)

-- and none is set
pub each_sets_none : (changes : Changes) → RemovesEach changes → sets_last changes ≡ false
each_sets_none changes each = ap sets_last each.removes ∙ removals_set (keys_of changes)

keys_of_removals : (names : List (List ℕ)) → keys_of (removals names) ≡ names
keys_of_removals [] = refl
keys_of_removals (name ∷ names) = ap (λ rest. name ∷ rest) (keys_of_removals names)

-- fields are removed that are distinct
pub each_of : (changes : Changes) (names : List (List ℕ)) → changes ≡ removals names → IsDistinct (pointwise nat_eq) names → RemovesEach changes
each_of changes names made distinct =
    let keys : keys_of changes ≡ names = ap keys_of made ∙ keys_of_removals names in
    record {
      removes = made ∙ ap removals (sym keys);
      distinct = subst (IsDistinct (pointwise nat_eq)) (sym keys) distinct;
    }

-- a single one is
pub one_removed : (changes : Changes) (name : List ℕ) → changes ≡ removals (name ∷ []) → RemovesEach changes
unfolding IsDistinct
one_removed changes name made = each_of changes (name ∷ []) made (tt, tt)

-- ---- a field that is set last

set_left : (pairs : Pairs) (field value : List ℕ) → is_some (hash_of (insert_entry (pointwise nat_eq) pairs field value)) ≡ true
set_left [] field value = refl
set_left (pair ∷ pairs) field value =
    elim (pointwise nat_eq field pair.0) as (λ b. is_some (hash_of (if b then (pair.0, value) ∷ pairs else pair ∷ insert_entry (pointwise nat_eq) pairs field value)) ≡ true) [ true ↦ refl | false ↦ refl ]

changed_left : (pairs : Pairs) (field : List ℕ) (value : Option (List ℕ)) → is_some value ≡ true → is_some (hash_of (field_changed pairs field value)) ≡ true
changed_left pairs field (Some value) some = set_left pairs field value
changed_left pairs field None some = absurd (false≢true some)

set_last_left : (changes : Changes) (pairs : Pairs) → sets_last changes ≡ true → is_some (hash_of (fields_changed pairs changes)) ≡ true
set_last_left [] pairs sets = absurd (false≢true sets)
set_last_left (change ∷ []) pairs sets = changed_left pairs change.0 change.1 sets
set_last_left (change ∷ next ∷ changes) pairs sets = set_last_left (next ∷ changes) (field_changed pairs change.0 change.1) (sym (later_change change next changes) ∙ sets)

pub sets_leave : (changes : Changes) (value : Option Value) → sets_last changes ≡ true → is_some (fields_left value changes) ≡ true
sets_leave changes None sets = set_last_left changes [] sets
sets_leave changes (Some (Hash pairs)) sets = set_last_left changes pairs sets
sets_leave changes (Some (Str bytes)) sets = refl

-- ---- what is left where no field is set last

-- some of the fields are left
pub some_left : (removed : ℕ) (pairs after : Pairs) → removed + length after ≡ length pairs → nat_lt removed (length pairs) ≡ is_some (hash_of after)
some_left removed pairs [] is = grind (arith, nat_tests)
some_left removed pairs (pair ∷ after) is = grind (arith, nat_tests)

-- ---- fields that are set

sets_set : (pairs : List (List ℕ × List ℕ)) → sets_last (sets pairs) ≡ false → pairs ≡ []
sets_set [] none = refl
sets_set (pair ∷ []) none = absurd (true≢false none)
sets_set (pair ∷ next ∷ pairs) none =
    let empty = sets_set (next ∷ pairs) (sym (later_change (pair.0, Some pair.1) (next.0, Some next.1) (sets pairs)) ∙ none) in
    absurd (cc)

-- the last of several fields is set
pub sets_planned : (changes : Changes) (pairs : List (List ℕ × List ℕ)) → changes ≡ sets pairs → IsPlanned changes
unfolding IsDistinct
sets_planned changes pairs made none = each_of changes [] (made ∙ ap sets (sets_set pairs (ap sets_last (sym made) ∙ none))) tt

-- a single one is
pub set_planned : (changes : Changes) (field value : List ℕ) → changes ≡ (field, Some value) ∷ [] → IsPlanned changes
set_planned changes field value made none = absurd (true≢false (ap sets_last (sym made) ∙ none))
