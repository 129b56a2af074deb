-- The entries of a map of moves are what it has.
use Rattle.std.proofs.Common.{◌≡◌, ◌≢◌, ℕ, List, [], ◌∷◌, Bool, true, false, cond, T, Some, Contains, refl, sym, ap, subst, ◌∙◌, inl, inr}
use Rattle.std.proofs.lemmas.Bool.{and_parts, both_ways}
use Rattle.std.specs.FinMap as map
use Rattle.std.specs.FinMap.Entries.{find, is_sorted, below_all}
use Rattle.std.specs.Ordering.{nat_cmp, eq_by_cmp, is_lt, is_eq}
use Rattle.std.specs.declared.cmp.Ordering.{Ordering}
use Rattle.std.specs.declared.cmp.Ordering.TheVariants.{Less, Equal, Greater}
use Rattle.single_keyspace.proofs.Lists.{first_or_more, contains_nothing}
use Rattle.single_keyspace.proofs.Maps.{one_number, two_numbers}

true_of : (b : Bool) → T b → b ≡ true
true_of true t = refl
true_of false t = absurd t

not_both : (o : Ordering) → is_lt o ≡ true → is_eq o ≡ true → ⊥
not_both Less less equal = both_ways false refl equal
not_both Equal less equal = both_ways false refl less
not_both Greater less equal = both_ways false refl less

module _ {V : Type 0} where
  below_among : (x : ℕ) (es : List (ℕ × V)) (k : ℕ) (v : V) → below_all nat_cmp x es ≡ true → Contains es (k, v) → is_lt (nat_cmp x k) ≡ true
  below_among x [] k v below among = absurd (contains_nothing (k, v) among)
  below_among x (e ∷ es) k v below among =
      let parts = and_parts (is_lt (nat_cmp x e.0)) (below_all nat_cmp x es) below in
      elim (first_or_more e (k, v) es among) [
        | inl same ↦ ap (λ (p : ℕ × V). is_lt (nat_cmp x p.0)) (sym same) ∙ parts.0
        | inr more ↦ below_among x es k v parts.1 more
      ]

  find_among : (es : List (ℕ × V)) (k : ℕ) (v : V) → is_sorted nat_cmp es ≡ true → Contains es (k, v) → find nat_cmp k es ≡ Some v
  find_among [] k v sorted among = absurd (contains_nothing (k, v) among)
  find_among (e ∷ es) k v sorted among =
      let parts = and_parts (below_all nat_cmp e.0 es) (is_sorted nat_cmp es) sorted in
      elim (first_or_more e (k, v) es among) [
        | inl same ↦
            ap (λ (p : ℕ × V). cond (eq_by_cmp nat_cmp k p.0) (Some p.1) (find nat_cmp k es)) same
            ∙ ap (λ b. cond b (Some v) (find nat_cmp k es)) (one_number k)
        | inr more ↦
            let apart : k ≢ e.0 =
            λ same. not_both (nat_cmp e.0 k) (below_among e.0 es k v parts.0 more) (subst (λ (j : ℕ). is_eq (nat_cmp j k) ≡ true) same (one_number k)) in
            ap (λ b. cond b (Some e.1) (find nat_cmp k es)) (two_numbers k e.0 apart) ∙ find_among es k v parts.1 more
      ]

  pub got_from_entry : (m : map.FinMap nat_cmp V) (k : ℕ) (v : V) → Contains (map.entries m) (k, v) → map.get m k ≡ Some v
  got_from_entry m k v among =
      map.get-entries m k ∙ find_among (map.entries m) k v (true_of (is_sorted nat_cmp (map.entries m)) (map.entries_sorted m)) among
