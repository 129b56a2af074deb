-- The entries of a tree of std by slots, seen as a finite map.
use Rattle.std.proofs.Common.{◌≡◌, ℕ, Bool, true, false, List, [], ◌∷◌, Option, T, cond, refl, sym, ap, subst, ◌∙◌}
use Rattle.std.proofs.lemmas.Cmp.{eq_by_cmp_equiv}
use Rattle.std.specs.Cmp.{nat_cmp_total}
use Rattle.std.specs.FinMap as map
use Rattle.std.specs.FinMap.Entries.{below_all, find, is_sorted, same_entries}
use Rattle.std.specs.List.{AllByRecursion}
use Rattle.std.specs.List.Sorted.{IsStrictlySortedBy}
use Rattle.std.specs.Map.{keys_of, lookup}
use Rattle.std.specs.Ordering.{eq_by_cmp, is_eq, is_lt, nat_cmp}
use Rattle.std.proofs.lemmas.Bool.{false≢true}
use Rattle.std.specs.Prelude.{◌&&◌, Some, None}
use Rattle.std.specs.declared.cmp.Ordering.{Ordering}
use Rattle.std.specs.declared.cmp.Ordering.TheVariants.{Less, Equal, Greater}
use Rattle.slot_state.specs.Moves.{by_slot}

tied : (order : Ordering) → is_eq order ≡ true → order ≡ Equal
tied Equal same = refl
tied Less same = absurd (false≢true same)
tied Greater same = absurd (false≢true same)

-- numbers that tie are equal
same_number : (q k : ℕ) → eq_by_cmp nat_cmp q k ≡ true → q ≡ k
same_number q k tie = map.nat_cmp-IsAntisymmetric q k (tied (nat_cmp q k) tie)

both : (a b : Bool) → T a → T b → T (a && b)
both true b p q = q
both false b p q = p

module _ {V : Type 0} where
  -- a finite map and a tree find the same in a list of entries
  find-lookup : (q : ℕ) (es : List (ℕ × V)) → find nat_cmp q es ≡ lookup (eq_by_cmp nat_cmp q) es
  find-lookup q [] = refl
  find-lookup q (e ∷ es) = ap (cond (eq_by_cmp nat_cmp q e.0) (Some e.1)) (find-lookup q es)

  -- the finite map of a tree's entries answers what the tree does
  pub get_by_slot : (es : List (ℕ × V)) (q : ℕ) → map.get (by_slot es) q ≡ lookup (eq_by_cmp nat_cmp q) es
  get_by_slot es q = map.get-from_entries nat_cmp_total es q ∙ find-lookup q es

  -- a value put into the tree
  pub by_slot_insert : (es fs : List (ℕ × V)) (k : ℕ) (v : V) → ((q : ℕ) → lookup (eq_by_cmp nat_cmp q) fs ≡ cond (eq_by_cmp nat_cmp k q) (Some v) (lookup (eq_by_cmp nat_cmp q) es)) → by_slot fs ≡ map.insert (by_slot es) k v
  by_slot_insert es fs k v puts =
      map.same_map nat_cmp_total map.nat_cmp-IsAntisymmetric _ _ (λ q.
      get_by_slot fs q ∙ puts q ∙ ap (λ b. cond b (Some v) (lookup (eq_by_cmp nat_cmp q) es)) ((eq_by_cmp_equiv nat_cmp_total).symm k q)
      ∙ ap (cond (eq_by_cmp nat_cmp q k) (Some v)) (sym (get_by_slot es q)) ∙ sym (map.get-insert nat_cmp_total _ k v q))

  -- a slot taken out of the tree
  pub by_slot_remove : (es fs : List (ℕ × V)) (k : ℕ) → ((q : ℕ) → lookup (eq_by_cmp nat_cmp q) fs ≡ cond (eq_by_cmp nat_cmp k q) None (lookup (eq_by_cmp nat_cmp q) es)) → by_slot fs ≡ map.remove (by_slot es) k
  by_slot_remove es fs k takes =
      map.same_map nat_cmp_total map.nat_cmp-IsAntisymmetric _ _ (λ q.
      get_by_slot fs q ∙ takes q ∙ ap (λ b. cond b None (lookup (eq_by_cmp nat_cmp q) es)) ((eq_by_cmp_equiv nat_cmp_total).symm k q)
      ∙ ap (cond (eq_by_cmp nat_cmp q k) None) (sym (get_by_slot es q)) ∙ sym (map.get-remove nat_cmp_total _ k q))

  twice : (b : Bool) (v a : Option V) → cond b None (cond b v a) ≡ cond b None a
  twice true v a = refl
  twice false v a = refl

  at_tie : (b : Bool) (a : Option V) → (b ≡ true → None ≡ a) → cond b None a ≡ a
  at_tie true a none = none refl
  at_tie false a none = refl

  -- what was put at a new slot and taken out again leaves nothing
  pub remove_inserted : (m : map.FinMap nat_cmp V) (k : ℕ) (v : V) → map.get m k ≡ None → map.remove (map.insert m k v) k ≡ m
  remove_inserted m k v none =
      map.same_map nat_cmp_total map.nat_cmp-IsAntisymmetric _ _ (λ q.
      map.get-remove nat_cmp_total (map.insert m k v) k q ∙ ap (cond (eq_by_cmp nat_cmp q k) None) (map.get-insert nat_cmp_total m k v q)
      ∙ twice (eq_by_cmp nat_cmp q k) (Some v) (map.get m q)
      ∙ at_tie (eq_by_cmp nat_cmp q k) (map.get m q) (λ tie. sym (ap (map.get m) (same_number q k tie) ∙ none)))

  -- each slot is above x
  rises_from : (x : ℕ) (es : List (ℕ × V)) → AllByRecursion (λ y. nat_cmp x y ≡ Less) (keys_of es) → T (below_all nat_cmp x es)
  rises_from x [] above = tt
  rises_from x (e ∷ es) above = both _ _ (subst (λ r. T (is_lt r)) (sym above.0) tt) (rises_from x es above.1)

  -- the slots of a tree strictly rise
  rises : (es : List (ℕ × V)) → IsStrictlySortedBy nat_cmp (keys_of es) → T (is_sorted nat_cmp es)
  unfolding IsStrictlySortedBy
  rises [] ordered = tt
  rises (e ∷ es) ordered = both _ _ (rises_from e.0 es ordered.0) (rises es ordered.1)

  -- a tree goes over the entries of its finite map
  pub entries_by_slot : (es : List (ℕ × V)) → IsStrictlySortedBy nat_cmp (keys_of es) → es ≡ map.entries (by_slot es)
  entries_by_slot es ordered =
      same_entries nat_cmp nat_cmp_total map.nat_cmp-IsAntisymmetric es (map.entries (by_slot es)) (rises es ordered) (map.entries_sorted (by_slot es))
      (λ q. sym (map.get-from_entries nat_cmp_total es q) ∙ map.get-entries (by_slot es) q)
