-- How many keys a command removes, key by key.
use Rattle.std.proofs.Common.{◌≡◌, ℕ, ◌+◌, ◌<◌, ◌≤◌, length, get_or, drop, drop-cons, add-one, List, [], ◌∷◌, Bool, true, false, cond, not, ◌&&◌, ◌||◌, refl, sym, ap, ◌∙◌, arith}
use Rattle.std.proofs.lemmas.Cmp.{nat_list_cmp_total, eq_by_cmp_equiv}
use Rattle.std.specs.FinMap as map
use Rattle.std.specs.Prelude.{Option, None, is_some}
use Rattle.keyspace.proofs.Applied.{is_key, is_key-same}
use Rattle.keyspace.specs.Commands.{values_at, with_values}
use Rattle.keyspace.specs.Strings.{all_removed, deleted, is_among}
use Rattle.keyspace.specs.Keyspace.{Keyspace}
use Rattle.keyspace.specs.declared.value.Value.{Value}

-- the key itself is named again
again : (b s : Bool) (d e : ℕ) → d + cond (b && s) 1 0 ≡ e → 0 + d + cond (b && true) 1 0 ≡ cond (b && not s) 1 0 + e
again true true d e is = omega arith
again true false d e is = omega arith
again false s d e is = omega arith

-- another key is named
apart : (x d s e : ℕ) → d + s ≡ e → (x + d) + s ≡ x + e
apart x d s e is = omega arith

-- the key is counted once: now, or where it is named again
now : (b s : Bool) (d e : ℕ) → d + cond (b && s) 1 0 ≡ e → cond (b && not s) 1 0 + e ≡ cond b 1 0 + d
now true true d e is = omega arith
now true false d e is = omega arith
now false s d e is = omega arith

none_again : (b : Bool) → 0 + cond (b && false) 1 0 ≡ 0
none_again true = refl
none_again false = refl

-- a key that is removed isn't counted where it is named again
removed_before : (m : Keyspace) (k : List ℕ) (ks : List (List ℕ)) → deleted ks (values_at (map.remove m k) ks) + cond (is_some (map.get m k) && is_among k ks) 1 0 ≡ deleted ks (values_at m ks)
removed_before m k [] = none_again (is_some (map.get m k))
removed_before m k (q ∷ ks) =
    let gone = map.get-remove nat_list_cmp_total m k q in
    let other = (eq_by_cmp_equiv nat_list_cmp_total).symm k q in
    ap (λ o. (cond (is_some o && not (is_among q ks)) 1 0 + deleted ks (values_at (map.remove m k) ks)) + cond (is_some (map.get m k) && (is_key k q || is_among k ks)) 1 0) gone
    ∙ ap (λ b. (cond (is_some (cond {A = Option Value} (is_key q k) None (map.get m q)) && not (is_among q ks)) 1 0 + deleted ks (values_at (map.remove m k) ks)) + cond (is_some (map.get m k) && (b || is_among k ks)) 1 0) other
    ∙ elim (is_key q k) as (λ b. is_key q k ≡ b →
    (cond (is_some (cond {A = Option Value} b None (map.get m q)) && not (is_among q ks)) 1 0 + deleted ks (values_at (map.remove m k) ks)) + cond (is_some (map.get m k) && (b || is_among k ks)) 1 0
    ≡ cond (is_some (map.get m q) && not (is_among q ks)) 1 0 + deleted ks (values_at m ks)) [
      | true ↦ λ t.
          again (is_some (map.get m k)) (is_among k ks) _ _ (removed_before m k ks)
          ∙ sym (ap (λ x. cond (is_some (map.get m x) && not (is_among x ks)) 1 0 + deleted ks (values_at m ks)) (is_key-same q k t))
      | false ↦ λ t. apart (cond (is_some (map.get m q) && not (is_among q ks)) 1 0) _ _ _ (removed_before m k ks)
    ] refl

-- a key is removed, and those after it
deleted_step : (m : Keyspace) (k : List ℕ) (ks : List (List ℕ)) → deleted (k ∷ ks) (values_at m (k ∷ ks)) ≡ cond (is_some (map.get m k)) 1 0 + deleted ks (values_at (map.remove m k) ks)
deleted_step m k ks = now (is_some (map.get m k)) (is_among k ks) _ _ (removed_before m k ks)

-- one count more
counted_so_far : (count one rest all whole : ℕ) → one + rest ≡ all → count + all ≡ whole → count + one + rest ≡ whole
counted_so_far count one rest all whole is so = omega arith

-- one key is removed from m, which gives n
module _ (m n : Keyspace) (k : List ℕ) (ks : List (List ℕ)) (i : ℕ) (within : i < length ks) (at : k ≡ get_or ks i k) (made : n ≡ map.remove m k) where
  -- the key, and those after it
  split : drop i ks ≡ k ∷ drop (i + 1) ks
  split =
      let here : drop i ks ≡ get_or ks i k ∷ drop (i + 1) ks = rw (add-one, drop-cons ks i k) refl in
      here ∙ ap (λ x. x ∷ drop (i + 1) ks) (sym at)

  -- it is counted
  pub counted_pass : (count one whole : ℕ) → one ≡ cond (is_some (map.get m k)) 1 0 → count + deleted (drop i ks) (values_at m (drop i ks)) ≡ whole → count + one + deleted (drop (i + 1) ks) (values_at n (drop (i + 1) ks)) ≡ whole
  counted_pass count one whole is so =
      ap (λ x. count + one + deleted (drop (i + 1) ks) (values_at x (drop (i + 1) ks))) made
      ∙ counted_so_far count one _ _ whole
      (ap (λ x. x + deleted (drop (i + 1) ks) (values_at (map.remove m k) (drop (i + 1) ks))) is ∙ sym (deleted_step m k (drop (i + 1) ks)) ∙ ap (λ x. deleted x (values_at m x)) (sym split))
      so

  -- and removed
  pub removed_pass : with_values n (drop (i + 1) ks) (all_removed (drop (i + 1) ks)) ≡ with_values m (drop i ks) (all_removed (drop i ks))
  removed_pass = ap (λ x. with_values x (drop (i + 1) ks) (all_removed (drop (i + 1) ks))) made ∙ ap (λ x. with_values m x (all_removed x)) (sym split)

-- and at most one count a key
pub small_so_far : (b : Bool) (count one i : ℕ) → one ≡ cond b 1 0 → count ≤ i → count + one ≤ i + 1
small_so_far true count one i is small = omega arith
small_so_far false count one i is small = omega arith
