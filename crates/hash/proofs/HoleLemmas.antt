-- The pairs that are left of a map with holes.
use Rattle.std.proofs.Common.{◌≡◌, ℕ, ◌+◌, ◌-◌, ◌≤◌, List, [], ◌∷◌, length, Bool, true, false, cond, not, if◌then◌else◌, refl, sym, ap, ◌∙◌, arith}
use Rattle.indexmap.specs.IndexMap.{insert_entry}
use Rattle.std.specs.Cmp.Lexicographic.{pointwise}
use Rattle.std.specs.List.{IsDistinct}
use Rattle.std.specs.Map.{remove_entry, set_value}
use Rattle.std.specs.Prelude.{Option, Some, None, nat_eq, is_some, is_none, IsSome}
use Rattle.hash.proofs.DistinctLemmas.{IsApart}
use Rattle.hash.proofs.Foreseen.{length-changed, same_field}
use Rattle.hash.specs.Holed.{is_in, left_of}
use Rattle.hash.specs.Pairs.{Pairs, value_of, field_changed, HasDistinctFields}
use Rattle.hash.specs.Sized.{count_of}

module _ (field : List ℕ) where
  -- a field is removed as its equal is
  same_removed : (removed : List (List ℕ)) (other : List ℕ) (b : Bool) → is_in removed field ≡ b → pointwise nat_eq field other ≡ true → is_in removed other ≡ b
  same_removed removed other b is same = ap (is_in removed) (sym (same_field field other same)) ∙ is

  module _ (removed : List (List ℕ)) where
    value_left_at : (pair : List ℕ × List ℕ) (after : Pairs) (old : Option (List ℕ)) (here gone : Bool) → pointwise nat_eq field pair.0 ≡ here → is_in removed pair.0 ≡ gone
        → value_of after field ≡ cond (is_in removed field) None old → value_of (cond (not gone) (pair ∷ after) after) field ≡ cond (is_in removed field) None (cond here (Some pair.1) old)
    value_left_at pair after old true true same is rest =
        let e : is_in removed field ≡ true = ap (is_in removed) (same_field field pair.0 same) ∙ is in
        rest ∙ ap (λ b. cond b None old) e ∙ sym (ap (λ b. cond b None (Some pair.1)) e)
    value_left_at pair after old true false same is rest =
        let e : is_in removed field ≡ false = ap (is_in removed) (same_field field pair.0 same) ∙ is in
        ap (λ b. cond b (Some pair.1) (value_of after field)) same ∙ sym (ap (λ b. cond b None (Some pair.1)) e)
    value_left_at pair after old false true same is rest = rest
    value_left_at pair after old false false same is rest = ap (λ b. cond b (Some pair.1) (value_of after field)) same ∙ rest

    -- a field that is removed has no value, and any other has that of the map
    pub value-left : (pairs : Pairs) → value_of (left_of pairs removed) field ≡ cond (is_in removed field) None (value_of pairs field)
    value-left [] = elim (is_in removed field) as (λ b. ◌≡◌ {A = Option (List ℕ)} None (cond b None None)) [ true ↦ refl | false ↦ refl ]
    value-left (pair ∷ pairs) =
        value_left_at pair (left_of pairs removed) (value_of pairs field) (pointwise nat_eq field pair.0) (is_in removed pair.0) refl refl (value-left pairs)

    module _ (left : is_in removed field ≡ false) where
      left_removed_at : (pair : List ℕ × List ℕ) (pairs after : Pairs) (here gone : Bool) → pointwise nat_eq field pair.0 ≡ here → is_in removed pair.0 ≡ gone
          → left_of after removed ≡ remove_entry (pointwise nat_eq field) (left_of pairs removed)
          → left_of (cond here pairs (pair ∷ after)) removed ≡ remove_entry (pointwise nat_eq field) (cond (not gone) (pair ∷ left_of pairs removed) (left_of pairs removed))
      left_removed_at pair pairs after true true same is rest = cc (same_removed removed pair.0 false left same)
      left_removed_at pair pairs after true false same is rest = sym (ap (λ b. cond b (left_of pairs removed) (pair ∷ remove_entry (pointwise nat_eq field) (left_of pairs removed))) same)
      left_removed_at pair pairs after false true same is rest = ap (λ b. cond (not b) (pair ∷ left_of after removed) (left_of after removed)) is ∙ rest
      left_removed_at pair pairs after false false same is rest =
          ap (λ b. cond (not b) (pair ∷ left_of after removed) (left_of after removed)) is ∙ ap (λ (others : Pairs). pair ∷ others) rest
          ∙ sym (ap (λ b. cond b (left_of pairs removed) (pair ∷ remove_entry (pointwise nat_eq field) (left_of pairs removed))) same)

      -- a pair that is taken out of the map is taken out of those that are left
      pub left-removed : (pairs : Pairs) → left_of (remove_entry (pointwise nat_eq field) pairs) removed ≡ remove_entry (pointwise nat_eq field) (left_of pairs removed)
      left-removed [] = refl
      left-removed (pair ∷ pairs) =
          left_removed_at pair pairs (remove_entry (pointwise nat_eq field) pairs) (pointwise nat_eq field pair.0) (is_in removed pair.0) refl refl (left-removed pairs)

      left_set_at : (value : List ℕ) (pair : List ℕ × List ℕ) (pairs after : Pairs) (here gone : Bool) → pointwise nat_eq field pair.0 ≡ here → is_in removed pair.0 ≡ gone
          → left_of after removed ≡ insert_entry (pointwise nat_eq) (left_of pairs removed) field value
          → left_of (if here then (pair.0, value) ∷ pairs else pair ∷ after) removed
          ≡ insert_entry (pointwise nat_eq) (cond (not gone) (pair ∷ left_of pairs removed) (left_of pairs removed)) field value
      left_set_at value pair pairs after true true same is rest = cc (same_removed removed pair.0 false left same)
      left_set_at value pair pairs after true false same is rest =
          ap (λ b. cond (not b) ((pair.0, value) ∷ left_of pairs removed) (left_of pairs removed)) is
          ∙ sym (ap (λ b. if b then (pair.0, value) ∷ left_of pairs removed else pair ∷ insert_entry (pointwise nat_eq) (left_of pairs removed) field value) same)
      left_set_at value pair pairs after false true same is rest = ap (λ b. cond (not b) (pair ∷ left_of after removed) (left_of after removed)) is ∙ rest
      left_set_at value pair pairs after false false same is rest =
          ap (λ b. cond (not b) (pair ∷ left_of after removed) (left_of after removed)) is ∙ ap (λ (others : Pairs). pair ∷ others) rest
          ∙ sym (ap (λ b. if b then (pair.0, value) ∷ left_of pairs removed else pair ∷ insert_entry (pointwise nat_eq) (left_of pairs removed) field value) same)

      -- a field that is set in the map is set in the pairs that are left
      pub left-set : (value : List ℕ) (pairs : Pairs) → left_of (insert_entry (pointwise nat_eq) pairs field value) removed ≡ insert_entry (pointwise nat_eq) (left_of pairs removed) field value
      left-set value [] = ap (λ b. cond (not b) ((field, value) ∷ []) []) left
      left-set value (pair ∷ pairs) =
          left_set_at value pair pairs (insert_entry (pointwise nat_eq) pairs field value) (pointwise nat_eq field pair.0) (is_in removed pair.0) refl refl (left-set value pairs)

    -- what is removed then differs in the field alone
    module _ (after : List (List ℕ)) (others : (other : List ℕ) → pointwise nat_eq field other ≡ false → is_in after other ≡ is_in removed other) where
      left_apart : (pairs : Pairs) → IsApart field pairs → left_of pairs after ≡ left_of pairs removed
      left_apart [] apart = refl
      left_apart (pair ∷ pairs) apart =
          ap (λ b. cond (not b) (pair ∷ left_of pairs after) (left_of pairs after)) (others pair.0 apart.0)
          ∙ ap (λ (left : Pairs). cond (not (is_in removed pair.0)) (pair ∷ left) left) (left_apart pairs apart.1)

      -- where the field stands behind those before
      apart_of : (pair : List ℕ × List ℕ) (pairs : Pairs) → HasDistinctFields (pair ∷ pairs) → pointwise nat_eq field pair.0 ≡ true → left_of pairs after ≡ left_of pairs removed
      unfolding IsDistinct
      apart_of pair pairs distinct same = left_apart pairs (rw (same_field field pair.0 same) distinct.0)

      rest_of : (pair : List ℕ × List ℕ) (pairs : Pairs) → HasDistinctFields (pair ∷ pairs) → HasDistinctFields pairs
      unfolding IsDistinct
      rest_of pair pairs distinct = distinct.1

      module _ (value : List ℕ) (was : is_in removed field ≡ false) (now : is_in after field ≡ true) where
        left_noted_at : (pair : List ℕ × List ℕ) (pairs set : Pairs) (here gone : Bool) → pointwise nat_eq field pair.0 ≡ here → is_in removed pair.0 ≡ gone
            → (here ≡ true → left_of pairs after ≡ left_of pairs removed)
            → left_of set after ≡ remove_entry (pointwise nat_eq field) (left_of pairs removed)
            → left_of (cond here ((pair.0, value) ∷ pairs) (pair ∷ set)) after ≡ remove_entry (pointwise nat_eq field) (cond (not gone) (pair ∷ left_of pairs removed) (left_of pairs removed))
        left_noted_at pair pairs set true true same is behind rest = cc (same_removed removed pair.0 false was same)
        left_noted_at pair pairs set true false same is behind rest =
            ap (λ b. cond (not b) ((pair.0, value) ∷ left_of pairs after) (left_of pairs after)) (same_removed after pair.0 true now same) ∙ behind refl
            ∙ sym (ap (λ b. cond b (left_of pairs removed) (pair ∷ remove_entry (pointwise nat_eq field) (left_of pairs removed))) same)
        left_noted_at pair pairs set false true same is behind rest =
            ap (λ b. cond (not b) (pair ∷ left_of set after) (left_of set after)) (others pair.0 same ∙ is) ∙ rest
        left_noted_at pair pairs set false false same is behind rest =
            ap (λ b. cond (not b) (pair ∷ left_of set after) (left_of set after)) (others pair.0 same ∙ is) ∙ ap (λ (left : Pairs). pair ∷ left) rest
            ∙ sym (ap (λ b. cond b (left_of pairs removed) (pair ∷ remove_entry (pointwise nat_eq field) (left_of pairs removed))) same)

        -- a field that is noted as removed is none of those that are left, whatever its value is from then on
        pub left-noted : (pairs : Pairs) → HasDistinctFields pairs → left_of (set_value (pointwise nat_eq field) pairs value) after ≡ remove_entry (pointwise nat_eq field) (left_of pairs removed)
        left-noted [] distinct = refl
        left-noted (pair ∷ pairs) distinct =
            left_noted_at pair pairs (set_value (pointwise nat_eq field) pairs value) (pointwise nat_eq field pair.0) (is_in removed pair.0) refl refl
            (apart_of pair pairs distinct) (left-noted pairs (rest_of pair pairs distinct))

      module _ (was : is_in removed field ≡ true) where
        left_closed_at : (pair : List ℕ × List ℕ) (pairs without : Pairs) (here gone : Bool) → pointwise nat_eq field pair.0 ≡ here → is_in removed pair.0 ≡ gone
            → (here ≡ true → left_of pairs after ≡ left_of pairs removed) → left_of without after ≡ left_of pairs removed
            → left_of (cond here pairs (pair ∷ without)) after ≡ cond (not gone) (pair ∷ left_of pairs removed) (left_of pairs removed)
        left_closed_at pair pairs without true true same is behind rest = behind refl
        left_closed_at pair pairs without true false same is behind rest = cc (same_removed removed pair.0 true was same)
        left_closed_at pair pairs without false true same is behind rest =
            ap (λ b. cond (not b) (pair ∷ left_of without after) (left_of without after)) (others pair.0 same ∙ is) ∙ rest
        left_closed_at pair pairs without false false same is behind rest =
            ap (λ b. cond (not b) (pair ∷ left_of without after) (left_of without after)) (others pair.0 same ∙ is) ∙ ap (λ (left : Pairs). pair ∷ left) rest

        -- where a hole is closed the same pairs are left
        pub left-closed : (pairs : Pairs) → HasDistinctFields pairs → left_of (remove_entry (pointwise nat_eq field) pairs) after ≡ left_of pairs removed
        left-closed [] distinct = refl
        left-closed (pair ∷ pairs) distinct =
            left_closed_at pair pairs (remove_entry (pointwise nat_eq field) pairs) (pointwise nat_eq field pair.0) (is_in removed pair.0) refl refl
            (apart_of pair pairs distinct) (left-closed pairs (rest_of pair pairs distinct))

-- where nothing is removed, all pairs are left
pub left-all : (pairs : Pairs) (removed : List (List ℕ)) → removed ≡ [] → left_of pairs removed ≡ pairs
left-all pairs removed none = ap (left_of pairs) none ∙ all_left pairs
  where
    all_left : (pairs : Pairs) → left_of pairs [] ≡ pairs
    all_left [] = refl
    all_left (pair ∷ pairs) = ap (λ (left : Pairs). pair ∷ left) (all_left pairs)

fewer_at : (pair : List ℕ × List ℕ) (pairs left : Pairs) (b : Bool) → length left ≤ length pairs → length (cond b (pair ∷ left) left) ≤ length (pair ∷ pairs)
fewer_at pair pairs left true fewer = omega (arith, fewer)
fewer_at pair pairs left false fewer = omega (arith, fewer)

-- no more pairs are left than the map has
pub length-left : (pairs : Pairs) (removed : List (List ℕ)) → length (left_of pairs removed) ≤ length pairs
length-left [] removed = omega arith
length-left (pair ∷ pairs) removed = fewer_at pair pairs (left_of pairs removed) (not (is_in removed pair.0)) (length-left pairs removed)

found_left : (gone : Bool) (value : Option (List ℕ)) → IsSome (cond gone None value) → (gone ≡ false) × IsSome value
found_left true value found = cc
found_left false value found = (refl, found)

-- a field that is left isn't removed, and the map has it
pub is_left : (pairs : Pairs) (removed : List (List ℕ)) (field value : List ℕ) → Some value ≡ value_of (left_of pairs removed) field → (is_in removed field ≡ false) × IsSome (value_of pairs field)
is_left pairs removed field value found = found_left (is_in removed field) (value_of pairs field) (sym (ap is_some (found ∙ value-left field removed pairs)))

-- a field that is left has the value that it has in the map
pub value_there : (pairs : Pairs) (removed : List (List ℕ)) (field : List ℕ) → is_in removed field ≡ false → value_of pairs field ≡ value_of (left_of pairs removed) field
value_there pairs removed field left = sym (value-left field removed pairs ∙ ap (λ b. cond b None (value_of pairs field)) left)

missing_at : (pair : List ℕ × List ℕ) (pairs after : Pairs) (old : Option (List ℕ)) (b : Bool) → (old ≡ None → after ≡ pairs) → cond b (Some pair.1) old ≡ None → cond b pairs (pair ∷ after) ≡ pair ∷ pairs
missing_at pair pairs after old true rest none = cc
missing_at pair pairs after old false rest none = ap (λ (others : Pairs). pair ∷ others) (rest none)

-- a field that isn't there takes no pair with it
pub remove-missing : (pairs : Pairs) (field : List ℕ) → value_of pairs field ≡ None → remove_entry (pointwise nat_eq field) pairs ≡ pairs
remove-missing [] field none = refl
remove-missing (pair ∷ pairs) field none =
    missing_at pair pairs (remove_entry (pointwise nat_eq field) pairs) (value_of pairs field) (pointwise nat_eq field pair.0) (remove-missing pairs field) none

-- how many pairs there are after one of them is removed
pub record Counts (pairs : Pairs) (len : ℕ) : Type 0 where
  pub some : 1 ≤ len
  pub fewer : len - 1 ≡ length pairs

pub count_removed : (pairs after : Pairs) (field old : List ℕ) (len : ℕ) → len ≡ length pairs → after ≡ field_changed pairs field None → Some old ≡ value_of pairs field → Counts after len
count_removed pairs after field old len counted is found =
    let e = length-changed pairs field None in
    let one = ap count_of found in
    let long = ap length is in
    record {
      some = omega (arith, e, one, counted);
      fewer = omega (arith, e, one, counted, long);
    }

pub count_missing : (pairs after : Pairs) (field : List ℕ) (len : ℕ) → len ≡ length pairs → after ≡ field_changed pairs field None → None ≡ value_of pairs field → len ≡ length after
count_missing pairs after field len counted is none =
    let e = length-changed pairs field None in
    let one = ap count_of none in
    let long = ap length is in
    omega (arith, e, one, counted, long)

more_at : (old : Option (List ℕ)) (len : ℕ) (new : Bool) → is_none old ≡ new → cond new (len + 1) len + count_of old ≡ len + 1
more_at None len true is = omega arith
more_at None len false is = cc
more_at (Some value) len true is = cc
more_at (Some value) len false is = omega arith

-- a field that is set is one more where it had no value
pub count_set : (pairs after : Pairs) (field value : List ℕ) (old : Option (List ℕ)) (len : ℕ) (new : Bool) → len ≡ length pairs → after ≡ field_changed pairs field (Some value)
    → old ≡ value_of pairs field → is_none old ≡ new → cond new (len + 1) len ≡ length after
count_set pairs after field value old len new counted is before none =
    let e = length-changed pairs field (Some value) in
    let one = ap count_of before in
    let long = ap length is in
    let more = more_at old len new none in
    omega (arith, e, one, counted, long, more)
