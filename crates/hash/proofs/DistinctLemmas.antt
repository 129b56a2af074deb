-- No field stands twice after a change.
use Rattle.std.proofs.Common.{◌≡◌, ℕ, List, [], ◌∷◌, ◌++◌, Bool, true, false, cond, if◌then◌else◌, refl, sym, ap, subst, ◌∙◌, append_assoc, append-nil}
use Rattle.indexmap.specs.IndexMap.{insert_entry, insert_all}
use Rattle.std.specs.Cmp.Lexicographic.{pointwise, nat_list_eq_equiv}
use Rattle.std.specs.List.{AllByRecursion, IsDistinct}
use Rattle.std.specs.Map.{keys_of, remove_entry}
use Rattle.std.specs.Prelude.{Option, Some, None, nat_eq}
use Rattle.hash.specs.Packed.{each_set}
use Rattle.hash.specs.Pairs.{Pairs, Changes, field_changed, fields_changed, HasDistinctFields}

-- the field is none of those of the pairs
abbrev pub IsApart : List ℕ → Pairs → Type 0
IsApart field pairs = AllByRecursion (λ other. pointwise nat_eq field other ≡ false) (keys_of pairs)

apart_set_at : (p : List ℕ) (pair : List ℕ × List ℕ) (pairs after : Pairs) (value : List ℕ) (b : Bool) → IsApart p (pair ∷ pairs) → IsApart p after → IsApart p (if b then (pair.0, value) ∷ pairs else pair ∷ after)
apart_set_at p pair pairs after value true apart rest = apart
apart_set_at p pair pairs after value false apart rest = (apart.0, rest)

apart_set : (p : List ℕ) (pairs : Pairs) (field value : List ℕ) → pointwise nat_eq p field ≡ false → IsApart p pairs → IsApart p (insert_entry (pointwise nat_eq) pairs field value)
apart_set p [] field value other apart = (other, tt)
apart_set p (pair ∷ pairs) field value other apart =
    apart_set_at p pair pairs (insert_entry (pointwise nat_eq) pairs field value) value (pointwise nat_eq field pair.0) apart (apart_set p pairs field value other apart.1)

apart_removed_at : (p : List ℕ) (pair : List ℕ × List ℕ) (pairs after : Pairs) (b : Bool) → IsApart p (pair ∷ pairs) → IsApart p after → IsApart p (cond b pairs (pair ∷ after))
apart_removed_at p pair pairs after true apart rest = apart.1
apart_removed_at p pair pairs after false apart rest = (apart.0, rest)

apart_removed : (p : List ℕ) (pairs : Pairs) (field : List ℕ) → IsApart p pairs → IsApart p (remove_entry (pointwise nat_eq field) pairs)
apart_removed p [] field apart = tt
apart_removed p (pair ∷ pairs) field apart =
    apart_removed_at p pair pairs (remove_entry (pointwise nat_eq field) pairs) (pointwise nat_eq field pair.0) apart (apart_removed p pairs field apart.1)

distinct_set_at : (pair : List ℕ × List ℕ) (pairs after : Pairs) (value : List ℕ) (b : Bool) → HasDistinctFields (pair ∷ pairs) → (b ≡ false → IsApart pair.0 after) → HasDistinctFields after
    → HasDistinctFields (if b then (pair.0, value) ∷ pairs else pair ∷ after)
unfolding IsDistinct
distinct_set_at pair pairs after value true distinct apart rest = distinct
distinct_set_at pair pairs after value false distinct apart rest = (apart refl, rest)

distinct_set : (pairs : Pairs) (field value : List ℕ) → HasDistinctFields pairs → HasDistinctFields (insert_entry (pointwise nat_eq) pairs field value)
unfolding IsDistinct
distinct_set [] field value distinct = (tt, tt)
distinct_set (pair ∷ pairs) field value distinct =
    distinct_set_at pair pairs (insert_entry (pointwise nat_eq) pairs field value) value (pointwise nat_eq field pair.0) distinct
    (λ other. apart_set pair.0 pairs field value (nat_list_eq_equiv.symm pair.0 field ∙ other) distinct.0) (distinct_set pairs field value distinct.1)

distinct_removed_at : (pair : List ℕ × List ℕ) (pairs after : Pairs) (b : Bool) → HasDistinctFields (pair ∷ pairs) → IsApart pair.0 after → HasDistinctFields after → HasDistinctFields (cond b pairs (pair ∷ after))
unfolding IsDistinct
distinct_removed_at pair pairs after true distinct apart rest = distinct.1
distinct_removed_at pair pairs after false distinct apart rest = (apart, rest)

distinct_removed : (pairs : Pairs) (field : List ℕ) → HasDistinctFields pairs → HasDistinctFields (remove_entry (pointwise nat_eq field) pairs)
unfolding IsDistinct
distinct_removed [] field distinct = tt
distinct_removed (pair ∷ pairs) field distinct =
    distinct_removed_at pair pairs (remove_entry (pointwise nat_eq field) pairs) (pointwise nat_eq field pair.0) distinct (apart_removed pair.0 pairs field distinct.0) (distinct_removed pairs field distinct.1)

-- no field stands twice after one change
pub distinct-changed : (pairs : Pairs) (field : List ℕ) (value : Option (List ℕ)) → HasDistinctFields pairs → HasDistinctFields (field_changed pairs field value)
distinct-changed pairs field (Some value) distinct = distinct_set pairs field value distinct
distinct-changed pairs field None distinct = distinct_removed pairs field distinct

-- a field that stands behind the others is none of them
apart_at : (p : List ℕ) (before : Pairs) (pair : List ℕ × List ℕ) (behind : Pairs) → IsApart p (before ++ pair ∷ behind) → pointwise nat_eq pair.0 p ≡ false
apart_at p [] pair behind apart = nat_list_eq_equiv.symm pair.0 p ∙ apart.0
apart_at p (_ ∷ before) pair behind apart = apart_at p before pair behind apart.1

put_last : (before : Pairs) (pair : List ℕ × List ℕ) (behind : Pairs) → HasDistinctFields (before ++ pair ∷ behind)
    → insert_entry (pointwise nat_eq) before pair.0 pair.1 ≡ before ++ pair ∷ []
unfolding IsDistinct
put_last [] pair behind distinct = refl
put_last (first ∷ before) pair behind distinct =
    ap (λ (b : Bool). if b then (first.0, pair.1) ∷ before else first ∷ insert_entry (pointwise nat_eq) before pair.0 pair.1) (apart_at first.0 before pair behind distinct.0)
    ∙ ap (λ (pairs : Pairs). first ∷ pairs) (put_last before pair behind distinct.1)

put_behind : (before behind : Pairs) → HasDistinctFields (before ++ behind) → insert_all (pointwise nat_eq) before behind ≡ before ++ behind
put_behind before [] distinct = sym (append-nil before)
put_behind before (pair ∷ behind) distinct =
    ap (λ (pairs : Pairs). insert_all (pointwise nat_eq) pairs behind) (put_last before pair behind distinct)
    ∙ put_behind (before ++ pair ∷ []) behind (subst HasDistinctFields (sym (append_assoc before (pair ∷ []) behind)) distinct)
    ∙ append_assoc before (pair ∷ []) behind

-- pairs that are put one after another into an empty map keep their order
pub put_in_order : (filled empty moved pairs : Pairs) → filled ≡ insert_all (pointwise nat_eq) empty moved → empty ≡ [] → moved ≡ pairs → HasDistinctFields pairs → filled ≡ pairs
put_in_order filled empty moved pairs is none all distinct =
    is ∙ ap (λ (from : Pairs). insert_all (pointwise nat_eq) from moved) none ∙ ap (insert_all (pointwise nat_eq) []) all ∙ put_behind [] pairs distinct

-- setting each field is putting each pair
set_onto : (start pairs : Pairs) → fields_changed start (each_set pairs) ≡ insert_all (pointwise nat_eq) start pairs
set_onto start [] = refl
set_onto start (pair ∷ pairs) = set_onto (insert_entry (pointwise nat_eq) start pair.0 pair.1) pairs

-- fields that are set one after another in an empty hash keep their order
pub set_in_order : (filled empty pairs : Pairs) (changes : Changes) → filled ≡ fields_changed empty changes → empty ≡ [] → changes ≡ each_set pairs → HasDistinctFields pairs → filled ≡ pairs
set_in_order filled empty pairs changes is none all distinct =
    is ∙ ap (λ (from : Pairs). fields_changed from changes) none ∙ ap (fields_changed []) all ∙ set_onto [] pairs ∙ put_behind [] pairs distinct
