-- What is known of a hash after changes that aren't made.
use Rattle.std.proofs.Common.{◌≡◌, ℕ, ◌+◌, ◌-◌, ◌<◌, ◌≤◌, ◌^◌, List, [], ◌∷◌, ◌++◌, length, length-append, Bool, true, false, cond, if◌then◌else◌, refl, sym, ap, subst, ◌∙◌, arith}
use Rattle.indexmap.specs.IndexMap.{insert_entry}
use Rattle.std.proofs.lemmas.List.Sums.{fold_push}
use Rattle.std.proofs.lemmas.Map.{lookup-remove_entry}
use Rattle.std.specs.Cmp.Lexicographic.{pointwise, bytes_decides, nat_list_eq_equiv}
use Rattle.std.specs.Map.{lookup, remove_entry}
use Rattle.std.specs.Option.{unwrap_or}
use Rattle.std.specs.Prelude.{Option, Some, None, nat_eq}
use Rattle.hash.specs.Foreseen.{Foresees}
use Rattle.hash.specs.Pairs.{Pairs, Changes, value_of, field_changed, fields_changed, HasDistinctFields}
use Rattle.hash.specs.Size.{size_of}
use Rattle.hash.specs.Sized.{pair_size, count_of, AreShort, IsSized}
use Rattle.hash.proofs.DistinctLemmas.{distinct-changed}
use Rattle.hash.proofs.SizeLemmas.{size-changed, short-changed, size-le}

-- equal fields are one
pub same_field : (p q : List ℕ) → pointwise nat_eq p q ≡ true → p ≡ q
same_field p q = (bytes_decides p q).0

value_set_at : (pair : List ℕ × List ℕ) (pairs after : Pairs) (field value q : List ℕ) (b c : Bool) → pointwise nat_eq field pair.0 ≡ b → pointwise nat_eq field q ≡ c
    → value_of after q ≡ cond c (Some value) (value_of pairs q)
    → value_of (if b then (pair.0, value) ∷ pairs else pair ∷ after) q ≡ cond c (Some value) (value_of (pair ∷ pairs) q)
value_set_at pair pairs after field value q true true here same rest =
    ap (λ b. cond b (Some value) (value_of pairs q)) (ap (pointwise nat_eq q) (sym (same_field field pair.0 here) ∙ same_field field q same) ∙ nat_list_eq_equiv.refl q)
value_set_at pair pairs after field value q true false here same rest =
    let other : pointwise nat_eq q pair.0 ≡ false = ap (pointwise nat_eq q) (sym (same_field field pair.0 here)) ∙ nat_list_eq_equiv.symm q field ∙ same in
    ap (λ b. cond b (Some value) (value_of pairs q)) other ∙ sym (ap (λ b. cond b (Some pair.1) (value_of pairs q)) other)
value_set_at pair pairs after field value q false true here same rest =
    ap (λ b. cond b (Some pair.1) (value_of after q)) (ap (λ p. pointwise nat_eq p pair.0) (sym (same_field field q same)) ∙ here) ∙ rest
value_set_at pair pairs after field value q false false here same rest = ap (cond (pointwise nat_eq q pair.0) (Some pair.1)) rest

value_set : (pairs : Pairs) (field value q : List ℕ) → value_of (insert_entry (pointwise nat_eq) pairs field value) q ≡ cond (pointwise nat_eq field q) (Some value) (value_of pairs q)
value_set [] field value q = ap (λ b. cond b (Some value) None) (nat_list_eq_equiv.symm q field)
value_set (pair ∷ pairs) field value q =
    value_set_at pair pairs (insert_entry (pointwise nat_eq) pairs field value) field value q (pointwise nat_eq field pair.0) (pointwise nat_eq field q) refl refl (value_set pairs field value q)

-- the value of a field after one change
pub value-changed : (pairs : Pairs) (field : List ℕ) (value : Option (List ℕ)) (q : List ℕ) → HasDistinctFields pairs → value_of (field_changed pairs field value) q ≡ cond (pointwise nat_eq field q) value (value_of pairs q)
value-changed pairs field (Some value) q distinct = value_set pairs field value q
value-changed pairs field None q distinct = lookup-remove_entry nat_list_eq_equiv (pointwise nat_eq field) (λ x y e. ap (λ p. pointwise nat_eq p y) (same_field field x e)) q pairs distinct

length_set_at : (pair : List ℕ × List ℕ) (pairs after : Pairs) (old : Option (List ℕ)) (value : List ℕ) (b : Bool) → length after + count_of old ≡ length pairs + 1
    → length (if b then (pair.0, value) ∷ pairs else pair ∷ after) + count_of (cond b (Some pair.1) old) ≡ length (pair ∷ pairs) + 1
length_set_at pair pairs after old value true rest = refl
length_set_at pair pairs after old value false rest = omega (arith, rest)

length_set : (pairs : Pairs) (field value : List ℕ) → length (insert_entry (pointwise nat_eq) pairs field value) + count_of (value_of pairs field) ≡ length pairs + 1
length_set [] field value = refl
length_set (pair ∷ pairs) field value = length_set_at pair pairs (insert_entry (pointwise nat_eq) pairs field value) (value_of pairs field) value (pointwise nat_eq field pair.0) (length_set pairs field value)

length_removed_at : (pair : List ℕ × List ℕ) (pairs after : Pairs) (old : Option (List ℕ)) (b : Bool) → length after + count_of old ≡ length pairs
    → length (cond b pairs (pair ∷ after)) + count_of (cond b (Some pair.1) old) ≡ length (pair ∷ pairs)
length_removed_at pair pairs after old true rest = omega arith
length_removed_at pair pairs after old false rest = omega (arith, rest)

length_removed : (pairs : Pairs) (field : List ℕ) → length (remove_entry (pointwise nat_eq field) pairs) + count_of (value_of pairs field) ≡ length pairs
length_removed [] field = refl
length_removed (pair ∷ pairs) field = length_removed_at pair pairs (remove_entry (pointwise nat_eq field) pairs) (value_of pairs field) (pointwise nat_eq field pair.0) (length_removed pairs field)

-- how many fields there are after one change
pub length-changed : (pairs : Pairs) (field : List ℕ) (value : Option (List ℕ)) → length (field_changed pairs field value) + count_of (value_of pairs field) ≡ length pairs + count_of value
length-changed pairs field (Some value) = length_set pairs field value
length-changed pairs field None = let e = length_removed pairs field in omega (arith, e)

-- a change beside those that are left takes their place, or leaves them
kept_or_changed : (b : Bool) (value : Option (List ℕ)) (left : Option (Option (List ℕ))) (before : Option (List ℕ)) → cond b value (unwrap_or left before) ≡ unwrap_or (cond b (Some value) left) before
kept_or_changed true value left before = refl
kept_or_changed false value left before = refl

-- a value is copied where there is one
abbrev pub IsCopy : Option (List ℕ) → Option (List ℕ) → Type 0
IsCopy None None = Unit {0}
IsCopy None (Some copy) = ⊥
IsCopy (Some value) None = ⊥
IsCopy (Some value) (Some copy) = copy ≡ value

pub same_copy : (value copy : Option (List ℕ)) → IsCopy value copy → copy ≡ value
same_copy None None e = refl
same_copy None (Some copy) e = absurd e
same_copy (Some value) None e = absurd e
same_copy (Some value) (Some copy) e = ap Some e

one_field : (value : Option (List ℕ)) → count_of value ≤ 1
one_field (Some value) = omega arith
one_field None = omega arith

module _ (pairs : Pairs) (left done : Changes) (len size : ℕ) (foreseen : Foresees pairs left done len size)
    (field : List ℕ) (value old : Option (List ℕ)) (found : old ≡ unwrap_or (lookup (pointwise nat_eq field) left) (value_of pairs field)) where
  old_value : value_of (fields_changed pairs done) field ≡ old
  old_value = foreseen.values field ∙ sym found

  -- the field's pair is part of the size
  pub old_within : pair_size field old ≤ size
  old_within =
      let e = size-changed (fields_changed pairs done) field None in
      let o = ap (pair_size field) old_value in
      let s = foreseen.sized in
      omega (arith, e, o, s)

  -- the hash after one more change
  one_more : fields_changed pairs (done ++ (field, value) ∷ []) ≡ field_changed (fields_changed pairs done) field value
  one_more = fold_push (λ pairs change. field_changed pairs change.0 change.1) pairs done (field, value)

  module _ (new : Option (List ℕ)) (same : new ≡ value) (new_len new_size : ℕ) (counted : new_len + count_of old ≡ len + count_of new) (sized : new_size + pair_size field old ≡ size + pair_size field new) where
    pub len_after : new_len ≡ length (fields_changed pairs (done ++ (field, value) ∷ []))
    len_after =
        let e = length-changed (fields_changed pairs done) field value in
        let o = ap count_of old_value in
        let l = foreseen.counted in
        let m = ap length one_more in
        let n = ap count_of same in
        omega (arith, e, o, l, m, n, counted)

    pub size_after : new_size ≡ size_of (fields_changed pairs (done ++ (field, value) ∷ []))
    size_after =
        let e = size-changed (fields_changed pairs done) field value in
        let o = ap (pair_size field) old_value in
        let s = foreseen.sized in
        let m = ap size_of one_more in
        let n = ap (pair_size field) same in
        omega (arith, e, o, s, m, n, sized)

    -- what the changes leave at their fields, with this one
    pub foreseen_next : (more : Changes) → more ≡ done ++ (field, value) ∷ [] → (new_left : Changes) (key : List ℕ) (left_there : Option (List ℕ)) → key ≡ field → left_there ≡ value → pair_size field new ≤ 2 ^ 64 + 2 ^ 6
        → ((q : List ℕ) → lookup (pointwise nat_eq q) new_left ≡ cond (pointwise nat_eq key q) (Some left_there) (lookup (pointwise nat_eq q) left))
        → Foresees pairs new_left more new_len new_size
    foreseen_next more is new_left key left_there same_key same_value fits updates = subst (λ (changes : Changes). Foresees pairs new_left changes new_len new_size) (sym is) record {
      values = λ q.
          ap (λ after. value_of after q) one_more ∙ value-changed (fields_changed pairs done) field value q foreseen.distinct
          ∙ ap (cond (pointwise nat_eq field q) value) (foreseen.values q)
          ∙ kept_or_changed (pointwise nat_eq field q) value (lookup (pointwise nat_eq q) left) (value_of pairs q)
          ∙ ap (λ o. unwrap_or o (value_of pairs q)) (sym (updates q
          ∙ ap (λ k. cond (pointwise nat_eq k q) (Some left_there) (lookup (pointwise nat_eq q) left)) same_key
          ∙ ap (λ w. cond (pointwise nat_eq field q) (Some w) (lookup (pointwise nat_eq q) left)) same_value));
      distinct = subst HasDistinctFields (sym one_more) (distinct-changed (fields_changed pairs done) field value foreseen.distinct);
      short = subst AreShort (sym one_more) (short-changed (fields_changed pairs done) field value (subst (λ w. pair_size field w ≤ 2 ^ 64 + 2 ^ 6) same fits) foreseen.short);
      counted = len_after;
      sized = size_after;
      few =
          let e = length-changed (fields_changed pairs done) field value in
          let m = ap length one_more in
          let n = length-append done ((field, value) ∷ []) in
          let f = foreseen.few in
          let one = one_field value in
          omega (arith, e, m, n, f, one);
    }

-- so few changes leave a size of 128 bits
pub size_small : (pairs : Pairs) (left done : Changes) (len size : ℕ) → Foresees pairs left done len size → length pairs < 2 ^ 63 → length done < 2 ^ 60 → size < 2 ^ 128 - 2 ^ 65
size_small pairs left done len size foreseen few some =
    let most = size-le (fields_changed pairs done) foreseen.short in
    let s = foreseen.sized in
    let f = foreseen.few in
    omega (arith, most, s, f)

-- before the first change, the hash is as it was
pub foreseen_first : (pairs : Pairs) (left : Changes) (len size : ℕ) → IsSized pairs size → left ≡ [] → len ≡ length pairs → Foresees pairs left [] len size
foreseen_first pairs left len size sized empty count =
    subst (λ (none : Changes). Foresees pairs none [] len size) (sym empty) record {
      values = λ field. refl;
      distinct = sized.distinct;
      short = sized.short;
      counted = count;
      sized = sized.total;
      few = omega arith;
    }
