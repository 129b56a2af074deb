-- Where a key lies in a list of pairs, and what a change there does.
use Rattle.std.proofs.Common.{◌≡◌, ℕ, zero, suc, ◌+◌, ◌<◌, ◌≤◌, List, [], ◌∷◌, ◌++◌, length, append_assoc, Bool, true, false, cond, Some, None, Result, Ok, Err, refl, sym, ap, subst, ◌∙◌, arith, true≢false}
use Rattle.std.proofs.lemmas.Cmp.{nat_list_cmp_total, eq_by_cmp_equiv}
use Rattle.std.proofs.lemmas.Map.{keys-set_value, lookup-remove_entry, lookup-set_value}
use Rattle.std.proofs.lemmas.Map.Keys.{IsDistinct-from_sorted}
use Rattle.std.specs.BTreeMap.{insert_entry}
use Rattle.std.specs.Cmp.Lexicographic.{slice_cmp}
use Rattle.std.specs.List.{AllByRecursion, insert, remove, slice_get}
use Rattle.std.specs.List.Sorted.{IsStrictlySortedBy}
use Rattle.std.specs.Map.{keys_of, values_of, lookup, remove_entry, set_value}
use Rattle.std.specs.Ordering.{nat_cmp, is_eq, match_ordering, ordering_reverse}
use Rattle.std.specs.Prelude.{is_ok, is_some, IsSome, slice_index_or, slice_set}
use Rattle.std.specs.declared.cmp.Ordering.{Ordering}
use Rattle.std.specs.declared.cmp.Ordering.TheVariants.{Less, Equal, Greater}
use Rattle.key_map.specs.Few.{one_further, place_of, set_value_at}
use Rattle.key_map.specs.KeyMap.{is_key, IsRising}

abbrev pub compare : List ℕ → List ℕ → Ordering
compare = slice_cmp nat_cmp

pub by_ordering : {P : Type 0} (r : Ordering) → (r ≡ Less → P) → (r ≡ Equal → P) → (r ≡ Greater → P) → P
by_ordering Less a b c = a refl
by_ordering Equal a b c = b refl
by_ordering Greater a b c = c refl

cond-true : {A : Type 0} {b : Bool} (x y : A) → b ≡ true → cond b x y ≡ x
cond-true x y e = ap (λ c. cond c x y) e

cond-false : {A : Type 0} {b : Bool} (x y : A) → b ≡ false → cond b x y ≡ y
cond-false x y e = ap (λ c. cond c x y) e

merged : {A : Type 0} (a b : Bool) (v w o : A) → a ≡ b → cond a w o ≡ cond b w (cond a v o)
merged true b v w o same = sym (cond-true _ _ (sym same))
merged false b v w o same = sym (cond-false _ _ (sym same))

apart : {A : Type 0} (a b : Bool) (v w o : A) → (a ≡ true → b ≡ false) → cond a v (cond b w o) ≡ cond b w (cond a v o)
apart true b v w o other = sym (cond-false _ _ (other refl))
apart false b v w o other = refl

under : (k x : List ℕ) → compare k x ≡ Greater → compare x k ≡ Less
under k x h = nat_list_cmp_total.antisymm x k ∙ ap ordering_reverse h

abbrev index_of : Result ℕ ℕ → ℕ
index_of (Ok i) = i
index_of (Err i) = i

further_Ok : (r : Result ℕ ℕ) (i : ℕ) → one_further r ≡ Ok (suc i) → r ≡ Ok i
further_Ok (Ok j) i e = let h = ap index_of e in ap Ok (omega arith)
further_Ok (Err j) i e = absurd (true≢false (sym (ap is_ok e)))

further_Err : (r : Result ℕ ℕ) (i : ℕ) → one_further r ≡ Err (suc i) → r ≡ Err i
further_Err (Ok j) i e = absurd (true≢false (ap is_ok e))
further_Err (Err j) i e = let h = ap index_of e in ap Err (omega arith)

further_past : (r : Result ℕ ℕ) → 0 < index_of (one_further r)
further_past (Ok j) = omega arith
further_past (Err j) = omega arith

-- an answer of a list behind so many pairs
abbrev pub behind : ℕ → Result ℕ ℕ → Result ℕ ℕ
behind at (Ok i) = Ok (at + i)
behind at (Err i) = Err (at + i)

pub behind_none : (r : Result ℕ ℕ) → behind 0 r ≡ r
behind_none (Ok i) = ap Ok (omega arith)
behind_none (Err i) = ap Err (omega arith)

pub behind_more : (at : ℕ) (r : Result ℕ ℕ) → behind (at + 1) r ≡ behind at (one_further r)
behind_more at (Ok i) = ap Ok (omega arith)
behind_more at (Err i) = ap Err (omega arith)

module _ {X : Type 0} (k : List ℕ) where
  -- the key is above the first i keys
  abbrev AboveFirst : List (List ℕ × X) → ℕ → Type 0
  AboveFirst es zero = Unit {0}
  AboveFirst [] (suc i) = ⊥
  AboveFirst (e ∷ es) (suc i) = (compare k e.0 ≡ Greater) × AboveFirst es i

  -- how the key compares to the one at i, if there is one
  abbrev AnswersAt : List (List ℕ × X) → ℕ → Ordering → Type 0
  AnswersAt [] i r = Unit {0}
  AnswersAt (e ∷ es) zero r = compare k e.0 ≡ r
  AnswersAt (e ∷ es) (suc i) r = AnswersAt es i r

  pub step : (e : List ℕ × X) (es : List (List ℕ × X)) (r : Ordering) → compare k e.0 ≡ r → place_of k (e ∷ es) ≡ match_ordering r (Err 0) (Ok 0) (one_further (place_of k es))
  step e es r h = ap (λ o. match_ordering o (Err 0) (Ok 0) (one_further (place_of k es))) h

  found_at : (es : List (List ℕ × X)) (i : ℕ) → place_of k es ≡ Ok i → (i < length es) × AboveFirst es i × AnswersAt es i Equal
  found_at [] i h = absurd (true≢false (sym (ap is_ok h)))
  found_at (e ∷ es) zero h = by_ordering (compare k e.0)
      (λ a. absurd (true≢false (sym (ap is_ok (sym (step e es Less a) ∙ h))))) (λ a. (omega arith, tt, a))
      (λ a. absurd (omega (arith, further_past (place_of k es), ap index_of (sym (step e es Greater a) ∙ h))))
  found_at (e ∷ es) (suc i) h = by_ordering (compare k e.0)
      (λ a. absurd (true≢false (sym (ap is_ok (sym (step e es Less a) ∙ h))))) (λ a. absurd (omega (arith, ap index_of (sym (step e es Equal a) ∙ h))))
      (λ a. let r = found_at es i (further_Ok _ i (sym (step e es Greater a) ∙ h)) in (omega (arith, r.0), (a, r.1), r.2))

  missing_at : (es : List (List ℕ × X)) (i : ℕ) → place_of k es ≡ Err i → (i ≤ length es) × AboveFirst es i × AnswersAt es i Less
  missing_at [] zero h = (omega arith, tt, tt)
  missing_at [] (suc i) h = absurd (omega (arith, ap index_of h))
  missing_at (e ∷ es) zero h = by_ordering (compare k e.0)
      (λ a. (omega arith, tt, a)) (λ a. absurd (true≢false (ap is_ok (sym (step e es Equal a) ∙ h))))
      (λ a. absurd (omega (arith, further_past (place_of k es), ap index_of (sym (step e es Greater a) ∙ h))))
  missing_at (e ∷ es) (suc i) h = by_ordering (compare k e.0)
      (λ a. absurd (omega (arith, ap index_of (sym (step e es Less a) ∙ h)))) (λ a. absurd (true≢false (ap is_ok (sym (step e es Equal a) ∙ h))))
      (λ a. let r = missing_at es i (further_Err _ i (sym (step e es Greater a) ∙ h)) in (omega (arith, r.0), (a, r.1), r.2))

  -- what holds of the index at which the key is
  pub record IsFound (es : List (List ℕ × X)) (i : ℕ) : Type 0 where
    pub within : i < length es
    pub value : lookup (is_key k) es ≡ slice_get (values_of es) i
    pub removes : remove es i ≡ remove_entry (is_key k) es
    pub writes : (w : X) → set_value_at es i w ≡ set_value (is_key k) es w
    pub puts : (w : X) → set_value_at es i w ≡ insert_entry compare es k w

  put_step : (w : X) (e : List ℕ × X) (es : List (List ℕ × X)) (r : Ordering) → compare k e.0 ≡ r → insert_entry compare (e ∷ es) k w ≡ match_ordering r ((k, w) ∷ e ∷ es) ((e.0, w) ∷ es) (e ∷ insert_entry compare es k w)
  put_step w e es r h = ap (λ o. match_ordering o ((k, w) ∷ e ∷ es) ((e.0, w) ∷ es) (e ∷ insert_entry compare es k w)) h

  is_found : (es : List (List ℕ × X)) (i : ℕ) → i < length es → AboveFirst es i → AnswersAt es i Equal → IsFound es i
  is_found [] i l a b = absurd (omega arith)
  is_found (e ∷ es) zero l a b =
      let same = ap is_eq b in
      record { within = l; value = cond-true _ _ same; removes = sym (cond-true _ _ same); writes = λ w. sym (cond-true _ _ same); puts = λ w. sym (put_step w e es Equal b) }
  is_found (e ∷ es) (suc i) l a b =
      let other = ap is_eq a.0 in
      let r = is_found es i (omega arith) a.1 b in
      record {
        within = l;
        value = cond-false _ _ other ∙ r.value;
        removes = ap (λ fs. e ∷ fs) r.removes ∙ sym (cond-false _ _ other);
        writes = λ w. ap (λ fs. e ∷ fs) (r.writes w) ∙ sym (cond-false _ _ other);
        puts = λ w. ap (λ fs. e ∷ fs) (r.puts w) ∙ sym (put_step w e es Greater a.0);
      }

  pub found : (es : List (List ℕ × X)) (i : ℕ) → place_of k es ≡ Ok i → IsFound es i
  found es i h = let r = found_at es i h in is_found es i r.0 r.1 r.2

  -- keys that are above one that the key is below
  lookup_above : (x : List ℕ) (es : List (List ℕ × X)) → compare k x ≡ Less → AllByRecursion (λ y. compare x y ≡ Less) (keys_of es) → lookup (is_key k) es ≡ None
  lookup_above x [] less above = refl
  lookup_above x (e ∷ es) less above = cond-false _ _ (ap is_eq (nat_list_cmp_total.trans k x e.0 less above.0)) ∙ lookup_above x es less above.1

  lookup_none : (es : List (List ℕ × X)) (i : ℕ) → IsRising es → AboveFirst es i → AnswersAt es i Less → lookup (is_key k) es ≡ None
  unfolding IsStrictlySortedBy
  lookup_none [] i s a b = refl
  lookup_none (e ∷ es) zero s a b = cond-false _ _ (ap is_eq b) ∙ lookup_above e.0 es b s.0
  lookup_none (e ∷ es) (suc i) s a b = cond-false _ _ (ap is_eq a.0) ∙ lookup_none es i s.1 a.1 b

  remove_none : (es : List (List ℕ × X)) → lookup (is_key k) es ≡ None → remove_entry (is_key k) es ≡ es
  remove_none [] none = refl
  remove_none (e ∷ es) none = elim (is_key k e.0) as (λ b. cond b (Some e.1) (lookup (is_key k) es) ≡ None → cond b es (e ∷ remove_entry (is_key k) es) ≡ e ∷ es) [
    | true ↦ λ h. absurd (true≢false (ap is_some h))
    | false ↦ λ h. ap (λ fs. e ∷ fs) (remove_none es h)
  ] none

  pub writes_none : (w : X) (es : List (List ℕ × X)) → lookup (is_key k) es ≡ None → es ≡ set_value (is_key k) es w
  writes_none w [] none = refl
  writes_none w (e ∷ es) none = elim (is_key k e.0) as (λ b. cond b (Some e.1) (lookup (is_key k) es) ≡ None → e ∷ es ≡ cond b ((e.0, w) ∷ es) (e ∷ set_value (is_key k) es w)) [
    | true ↦ λ h. absurd (true≢false (ap is_some h))
    | false ↦ λ h. ap (λ fs. e ∷ fs) (writes_none w es h)
  ] none

  -- what holds where the key is missing, and would be at the index
  pub record IsMissing (es : List (List ℕ × X)) (i : ℕ) : Type 0 where
    pub within : i ≤ length es
    pub none : lookup (is_key k) es ≡ None
    pub stays : es ≡ remove_entry (is_key k) es

  pub missing : (es : List (List ℕ × X)) (i : ℕ) → IsRising es → place_of k es ≡ Err i → IsMissing es i
  missing es i s h =
      let r = missing_at es i h in
      let none = lookup_none es i s r.1 r.2 in
      record { within = r.0; none = none; stays = sym (remove_none es none) }

  puts_between : (w : X) (es : List (List ℕ × X)) (i : ℕ) → AboveFirst es i → AnswersAt es i Less → insert es i (k, w) ≡ insert_entry compare es k w
  puts_between w [] zero a b = refl
  puts_between w [] (suc i) a b = absurd a
  puts_between w (e ∷ es) zero a b = sym (put_step w e es Less b)
  puts_between w (e ∷ es) (suc i) a b = ap (λ fs. e ∷ fs) (puts_between w es i a.1 b) ∙ sym (put_step w e es Greater a.0)

  -- a pair that is put at its place
  pub puts_new : (w : X) (es : List (List ℕ × X)) (i : ℕ) → place_of k es ≡ Err i → (i ≤ length es) × (insert es i (k, w) ≡ insert_entry compare es k w)
  puts_new w es i h = let r = missing_at es i h in (r.0, puts_between w es i r.1 r.2)

  -- a pair before all others
  pub puts_first : (w : X) (es : List (List ℕ × X)) → IsRising ((k, w) ∷ es) → insert_entry compare es k w ≡ (k, w) ∷ es
  unfolding IsStrictlySortedBy
  puts_first w [] s = refl
  puts_first w (e ∷ es) s = put_step w e es Less s.0.0

  all_puts : (P : List ℕ → Type 0) (w : X) (es : List (List ℕ × X)) → P k → AllByRecursion P (keys_of es) → AllByRecursion P (keys_of (insert_entry compare es k w))
  all_puts P w [] p a = (p, tt)
  all_puts P w (e ∷ es) p a = by_ordering (compare k e.0)
      (λ h. subst (λ fs. AllByRecursion P (keys_of fs)) (sym (put_step w e es Less h)) (p, a))
      (λ h. subst (λ fs. AllByRecursion P (keys_of fs)) (sym (put_step w e es Equal h)) a)
      (λ h. subst (λ fs. AllByRecursion P (keys_of fs)) (sym (put_step w e es Greater h)) (a.0, all_puts P w es p a.1))

  above_all : (x : List ℕ) (es : List (List ℕ × X)) → compare k x ≡ Less → AllByRecursion (λ y. compare x y ≡ Less) (keys_of es) → AllByRecursion (λ y. compare k y ≡ Less) (keys_of es)
  above_all x [] less above = tt
  above_all x (e ∷ es) less above = (nat_list_cmp_total.trans k x e.0 less above.0, above_all x es less above.1)

  -- the keys still rise
  pub rising_puts : (w : X) (es : List (List ℕ × X)) → IsRising es → IsRising (insert_entry compare es k w)
  unfolding IsStrictlySortedBy
  rising_puts w [] s = (tt, tt)
  rising_puts w (e ∷ es) s = by_ordering (compare k e.0)
      (λ h. subst IsRising (sym (put_step w e es Less h)) ((h, above_all e.0 es h s.0), s))
      (λ h. subst IsRising (sym (put_step w e es Equal h)) s)
      (λ h. subst IsRising (sym (put_step w e es Greater h)) (all_puts (λ y. compare e.0 y ≡ Less) w es (under k e.0 h) s.0, rising_puts w es s.1))

  all_removes : (P : List ℕ → Type 0) (es : List (List ℕ × X)) → AllByRecursion P (keys_of es) → AllByRecursion P (keys_of (remove_entry (is_key k) es))
  all_removes P [] a = tt
  all_removes P (e ∷ es) a = elim (is_key k e.0) as (λ b. AllByRecursion P (keys_of (cond b es (e ∷ remove_entry (is_key k) es)))) [ true ↦ a.1 | false ↦ (a.0, all_removes P es a.1) ]

  pub rising_removes : (es : List (List ℕ × X)) → IsRising es → IsRising (remove_entry (is_key k) es)
  unfolding IsStrictlySortedBy
  rising_removes [] s = tt
  rising_removes (e ∷ es) s = elim (is_key k e.0) as (λ b. IsRising (cond b es (e ∷ remove_entry (is_key k) es))) [ true ↦ s.1 | false ↦ (all_removes (λ y. compare e.0 y ≡ Less) es s.0, rising_removes es s.1) ]

  -- what a look-up finds behind a put
  pub lookup_puts : (w : X) (q : List ℕ) (es : List (List ℕ × X)) → lookup (is_key q) (insert_entry compare es k w) ≡ cond (is_key k q) (Some w) (lookup (is_key q) es)
  lookup_puts w q [] = ap (λ b. cond b (Some w) None) ((eq_by_cmp_equiv nat_list_cmp_total).symm q k)
  lookup_puts w q (e ∷ es) = by_ordering (compare k e.0)
      (λ h. ap (lookup (is_key q)) (put_step w e es Less h) ∙ ap (λ b. cond b (Some w) (lookup (is_key q) (e ∷ es))) ((eq_by_cmp_equiv nat_list_cmp_total).symm q k))
      (λ h.
      let same : is_key q e.0 ≡ is_key k q = (eq_by_cmp_equiv nat_list_cmp_total).symm q e.0 ∙ sym ((eq_by_cmp_equiv nat_list_cmp_total).congr k e.0 q (ap is_eq h)) in
      ap (lookup (is_key q)) (put_step w e es Equal h) ∙ merged (is_key q e.0) (is_key k q) _ _ _ same)
      (λ h.
      ap (lookup (is_key q)) (put_step w e es Greater h) ∙ ap (cond (is_key q e.0) (Some e.1)) (lookup_puts w q es)
      ∙ apart (is_key q e.0) (is_key k q) _ _ _ (λ same. (eq_by_cmp_equiv nat_list_cmp_total).symm k q ∙ (eq_by_cmp_equiv nat_list_cmp_total).congr q e.0 k same ∙ (eq_by_cmp_equiv nat_list_cmp_total).symm e.0 k ∙ ap is_eq h))

  -- what a look-up finds behind a removal
  pub lookup_removes : (q : List ℕ) (es : List (List ℕ × X)) → IsRising es → lookup (is_key q) (remove_entry (is_key k) es) ≡ cond (is_key k q) None (lookup (is_key q) es)
  lookup_removes q es s = lookup-remove_entry (eq_by_cmp_equiv nat_list_cmp_total) (is_key k) (λ x y same. sym ((eq_by_cmp_equiv nat_list_cmp_total).congr x k y ((eq_by_cmp_equiv nat_list_cmp_total).symm x k ∙ same))) q es (IsDistinct-from_sorted compare (keys_of es) s)

  -- and behind a value that is written
  pub lookup_writes : (w : X) (q : List ℕ) (es : List (List ℕ × X)) → IsSome (lookup (is_key k) es) → lookup (is_key q) (set_value (is_key k) es w) ≡ cond (is_key k q) (Some w) (lookup (is_key q) es)
  lookup_writes w q es there = lookup-set_value (eq_by_cmp_equiv nat_list_cmp_total) (is_key k) (λ x y same. sym ((eq_by_cmp_equiv nat_list_cmp_total).congr x k y ((eq_by_cmp_equiv nat_list_cmp_total).symm x k ∙ same))) q w es there

  pub rising_writes : (w : X) (es : List (List ℕ × X)) → IsRising es → IsRising (set_value (is_key k) es w)
  rising_writes w es s = subst (IsStrictlySortedBy compare) (sym (keys-set_value (is_key k) es w)) s

-- the pair at an index
pub pair_at : {X : Type 0} (es : List (List ℕ × X)) (i : ℕ) (p : List ℕ × X) → i < length es → p ≡ slice_index_or es i p
    → (p.0 ≡ slice_index_or (keys_of es) i []) × (slice_get (values_of es) i ≡ Some p.1) × ((w : X) → slice_set es i (p.0, w) ≡ set_value_at es i w)
pair_at [] i p within same = absurd (omega arith)
pair_at (e ∷ es) zero p within same = (ap (λ x. x.0) same, ap (λ x. Some x.1) (sym same), λ w. ap (λ x. (x.0, w) ∷ es) same)
pair_at (e ∷ es) (suc i) p within same = let r = pair_at es i p (omega arith) same in (r.0, r.1, λ w. ap (λ fs. e ∷ fs) (r.2 w))

pub rising_none : {X : Type 0} (es : List (List ℕ × X)) → es ≡ [] → IsRising es
unfolding IsStrictlySortedBy
rising_none es none = subst IsRising (sym none) tt

-- the loop's step to the next pair
pub next_place : {X : Type 0} (at : ℕ) (k : List ℕ) (e : List ℕ × X) (rest es all : List (List ℕ × X)) → rest ≡ e ∷ es → compare k e.0 ≡ Greater → behind at (place_of k rest) ≡ place_of k all → behind (at + 1) (place_of k es) ≡ place_of k all
next_place at k e rest es all is above before = behind_more at (place_of k es) ∙ ap (behind at) (sym (step k e es Greater above) ∙ ap (place_of k) (sym is)) ∙ before

-- the value of the pair at an index is written
pub value_at : {X : Type 0} (es : List (List ℕ × X)) (i : ℕ) (w : X) → i < length es → slice_set es i (slice_index_or (keys_of es) i [], w) ≡ set_value_at es i w
value_at [] i w within = absurd (omega arith)
value_at (e ∷ es) zero w within = refl
value_at (e ∷ es) (suc i) w within = ap (λ fs. e ∷ fs) (value_at es i w (omega arith))

rising_behind : {X : Type 0} (xs ys : List (List ℕ × X)) → IsRising (xs ++ ys) → IsRising ys
unfolding IsStrictlySortedBy
rising_behind [] ys s = s
rising_behind (x ∷ xs) ys s = rising_behind xs ys s.1

-- the last pair of a list goes before those that went before it
pub moved : {X : Type 0} (k : List ℕ) (w : X) (before left held after all : List (List ℕ × X)) → IsRising all → before ++ held ≡ all → before ≡ left ++ (k, w) ∷ [] → after ≡ insert_entry compare held k w → left ++ after ≡ all
moved k w before left held after all rising whole popped put =
    let here : left ++ (k, w) ∷ held ≡ all = sym (append_assoc left ((k, w) ∷ []) held) ∙ ap (λ xs. xs ++ held) (sym popped) ∙ whole in
    ap (λ xs. left ++ xs) (put ∙ puts_first k w held (rising_behind left ((k, w) ∷ held) (subst IsRising (sym here) rising))) ∙ here
