-- How many pairs there are at most while changes are made.
use Rattle.std.proofs.Common.{◌≡◌, ℕ, ◌+◌, ◌≤◌, List, [], ◌∷◌, length, Bool, true, false, cond, ◌&&◌, count_by, refl, sym, ap, subst, arith}
use Rattle.std.specs.Cmp.Lexicographic.{pointwise, nat_list_eq_equiv}
use Rattle.std.proofs.lemmas.List.Sums.{sum_by-cons}
use Rattle.std.specs.List.{IsDistinct}
use Rattle.std.specs.Prelude.{Option, Some, None, nat_eq, is_some, is_none}
use Rattle.hash.specs.Entries.{is_new, FitsIn}
use Rattle.hash.specs.Pairs.{Pairs, Changes, value_of, field_changed, HasDistinctFields}
use Rattle.hash.specs.Sized.{count_of}
use Rattle.hash.proofs.DistinctLemmas.{IsApart, distinct-changed}
use Rattle.hash.proofs.Foreseen.{length-changed, same_field, value-changed}

-- more room is room
pub fits_in_more : (room more : ℕ) (pairs : Pairs) (changes : Changes) → room ≤ more → FitsIn room pairs changes → FitsIn more pairs changes
fits_in_more room more pairs [] le fits = tt
fits_in_more room more pairs (change ∷ changes) le fits =
    let first = fits.0 in
    (omega arith, fits_in_more room more (field_changed pairs change.0 change.1) changes le fits.1)

-- after the first change there is room for the others
pub fits_next : (room more : ℕ) (pairs after : Pairs) (field : List ℕ) (value : Option (List ℕ)) (changes : Changes) → room ≤ more
    → after ≡ field_changed pairs field value → FitsIn room pairs ((field, value) ∷ changes) → FitsIn more after changes
fits_next room more pairs after field value changes le is fits =
    subst (λ (left : Pairs). FitsIn more left changes) (sym is) (fits_in_more room more (field_changed pairs field value) changes le fits.1)

abbrev gap : Option (List ℕ) → ℕ
gap None = 1
gap (Some _) = 0

-- how many of the fields have no value
abbrev gaps : Pairs → (List ℕ → Option (List ℕ)) → ℕ
gaps [] value = 0
gaps (pair ∷ pairs) value = gap (value pair.0) + gaps pairs value

one_or_gap : (value : Option (List ℕ)) → gap value + count_of value ≡ 1
one_or_gap None = refl
one_or_gap (Some _) = refl

module _ (field : List ℕ) (new : Option (List ℕ)) (value : List ℕ → Option (List ℕ)) where
  -- the values once the field has the new one
  abbrev changed : List ℕ → Option (List ℕ)
  changed q = cond (pointwise nat_eq field q) new (value q)

  gaps_apart : (pairs : Pairs) → IsApart field pairs → gaps pairs changed ≡ gaps pairs value
  gaps_apart [] apart = refl
  gaps_apart (pair ∷ pairs) apart =
      let here : gap (changed pair.0) ≡ gap (value pair.0) = ap (λ (b : Bool). gap (cond b new (value pair.0))) apart.0 in
      let rest = gaps_apart pairs apart.1 in
      omega (arith, here, rest)

  gaps_at : (pair : List ℕ × List ℕ) (pairs : Pairs) (b : Bool) → pointwise nat_eq field pair.0 ≡ b → HasDistinctFields (pair ∷ pairs)
      → (HasDistinctFields pairs → gaps pairs changed + count_of new ≤ gaps pairs value + count_of (value field) + cond (is_some (value_of pairs field)) 0 (count_of new))
      → gaps (pair ∷ pairs) changed + count_of new ≤ gaps (pair ∷ pairs) value + count_of (value field) + cond (is_some (cond b (Some pair.1) (value_of pairs field))) 0 (count_of new)
  unfolding IsDistinct
  gaps_at pair pairs true here distinct rest =
      let same : field ≡ pair.0 = same_field field pair.0 here in
      let apart : IsApart field pairs = subst (λ (f : List ℕ). IsApart f pairs) (sym same) distinct.0 in
      let others = gaps_apart pairs apart in
      let first : gap (changed pair.0) ≡ gap new = ap (λ (b : Bool). gap (cond b new (value pair.0))) here in
      let before : gap (value field) ≡ gap (value pair.0) = ap (λ (f : List ℕ). gap (value f)) same in
      let one = one_or_gap new in
      let other = one_or_gap (value field) in
      omega (arith, others, first, before, one, other)
  gaps_at pair pairs false here distinct rest =
      let first : gap (changed pair.0) ≡ gap (value pair.0) = ap (λ (b : Bool). gap (cond b new (value pair.0))) here in
      let others = rest distinct.1 in
      omega (arith, first, others)

  gaps_changed : (pairs : Pairs) → HasDistinctFields pairs
      → gaps pairs changed + count_of new ≤ gaps pairs value + count_of (value field) + cond (is_some (value_of pairs field)) 0 (count_of new)
  gaps_changed [] distinct = omega arith
  gaps_changed (pair ∷ pairs) distinct = gaps_at pair pairs (pointwise nat_eq field pair.0) refl distinct (gaps_changed pairs)

gaps_alike : (pairs : Pairs) (one other : List ℕ → Option (List ℕ)) → ((q : List ℕ) → one q ≡ other q) → gaps pairs one ≡ gaps pairs other
gaps_alike [] one other alike = refl
gaps_alike (pair ∷ pairs) one other alike =
    let here = ap gap (alike pair.0) in
    let rest = gaps_alike pairs one other alike in
    omega (arith, here, rest)

fewer_gap : (b : Bool) (one : List ℕ) (value : Option (List ℕ)) → gap (cond b (Some one) value) ≤ gap value
fewer_gap true one value = omega arith
fewer_gap false one value = omega arith

fewer_gaps : (pairs others : Pairs) (pair : List ℕ × List ℕ) → gaps pairs (value_of (pair ∷ others)) ≤ gaps pairs (value_of others)
fewer_gaps [] others pair = omega arith
fewer_gaps (first ∷ pairs) others pair =
    let here = fewer_gap (pointwise nat_eq first.0 pair.0) pair.1 (value_of others first.0) in
    let rest = fewer_gaps pairs others pair in
    omega (arith, here, rest)

no_gaps : (pairs : Pairs) → gaps pairs (value_of pairs) ≡ 0
no_gaps [] = refl
no_gaps (pair ∷ pairs) =
    let here : gap (value_of (pair ∷ pairs) pair.0) ≡ 0 = ap (λ (b : Bool). gap (cond b (Some pair.1) (value_of pairs pair.0))) (nat_list_eq_equiv.refl pair.0) in
    let rest = fewer_gaps pairs pairs pair in
    let none = no_gaps pairs in
    omega (arith, here, rest, none)

new_count : (there value : Option (List ℕ)) → cond (is_some there) 0 (count_of value) ≡ cond (is_some value && is_none there) 1 0
new_count (Some _) (Some _) = refl
new_count (Some _) None = refl
new_count None (Some _) = refl
new_count None None = refl

-- a change adds at most one pair, and none where its field was there
one_change : (pairs now : Pairs) (field : List ℕ) (value : Option (List ℕ)) → HasDistinctFields pairs → HasDistinctFields now
    → length (field_changed now field value) + gaps pairs (value_of (field_changed now field value)) ≤ length now + gaps pairs (value_of now) + cond (is_new pairs (field, value)) 1 0
one_change pairs now field value distinct_pairs distinct_now =
    let alike = gaps_alike pairs (value_of (field_changed now field value)) (changed field value (value_of now)) (λ q. value-changed now field value q distinct_now) in
    let gone = gaps_changed field value (value_of now) pairs distinct_pairs in
    let long = length-changed now field value in
    let new = new_count (value_of pairs field) value in
    omega (arith, alike, gone, long, new)

fits_from : (room : ℕ) (pairs now : Pairs) (changes : Changes) → HasDistinctFields pairs → HasDistinctFields now
    → length now + gaps pairs (value_of now) + count_by (is_new pairs) changes ≤ room → FitsIn room now changes
fits_from room pairs now [] distinct_pairs distinct_now le = tt
fits_from room pairs now (change ∷ changes) distinct_pairs distinct_now le =
    let one = one_change pairs now change.0 change.1 distinct_pairs distinct_now in
    let count : count_by (is_new pairs) (change ∷ changes) ≡ cond (is_new pairs change) 1 0 + count_by (is_new pairs) changes = sum_by-cons (λ (c : List ℕ × Option (List ℕ)). cond (is_new pairs c) 1 0) change changes in (
      omega (arith, one, le, count),
      fits_from room pairs (field_changed now change.0 change.1) changes distinct_pairs (distinct-changed now change.0 change.1 distinct_now) (omega (arith, one, le, count)),
    )

-- so many more pairs as changes set new fields is room for all of them
pub fits_new : (room : ℕ) (pairs : Pairs) (changes : Changes) → HasDistinctFields pairs → length pairs + count_by (is_new pairs) changes ≤ room → FitsIn room pairs changes
fits_new room pairs changes distinct le =
    let none = no_gaps pairs in
    fits_from room pairs pairs changes distinct distinct (omega (arith, le, none))
