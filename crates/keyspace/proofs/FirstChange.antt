-- A plan keeps its first change apart from the others.
use Rattle.std.proofs.Common.{◌≡◌, ℕ, List, [], ◌∷◌, length, Bool, true, false, cond, nat_eq, arith, sym, ap, ◌∙◌}
use Rattle.std.proofs.lemmas.Cmp.{nat_list_cmp_total, eq_by_cmp_equiv}
use Rattle.std.specs.Cmp.Lexicographic.{pointwise, texts_ties}
use Rattle.std.specs.FinMap as map
use Rattle.std.specs.Prelude.{Option, Some, None}
use Rattle.keyspace.proofs.Applied.{is_key, is_key-same, insert_again, insert_apart, applied_insert, applied_empty}
use Rattle.keyspace.specs.Keyspace.{Keyspace, changed}
use Rattle.keyspace.specs.Changes.{Changes, changes_of, applied, with_first}
use Rattle.keyspace.specs.declared.value.Value.{Value}

-- `==` of keys agrees with their order
pub key_test : (k q : List ℕ) (b : Bool) → b ≡ pointwise nat_eq k q → is_key q k ≡ b
key_test k q b e = (eq_by_cmp_equiv nat_list_cmp_total).symm q k ∙ sym (texts_ties k q) ∙ sym e

module _ (first : Option (List ℕ × Option Value)) (d m : Changes) (is : with_first first d ≡ m) where
  -- the first change is at the key
  pub get_first : (k : List ℕ) (c : Option Value) (q : List ℕ) → first ≡ Some (k, c) → true ≡ pointwise nat_eq k q → Some c ≡ map.get m q
  get_first k c q some same = sym (ap (λ n. map.get n q) (sym is ∙ ap (λ o. with_first o d) some) ∙ map.get-insert nat_list_cmp_total d k c q ∙ ap (λ b. cond b (Some c) (map.get d q)) (key_test k q true same))

  -- the first change is at another key
  pub get_more : (k : List ℕ) (c : Option Value) (q : List ℕ) → first ≡ Some (k, c) → false ≡ pointwise nat_eq k q → map.get d q ≡ map.get m q
  get_more k c q some apart = sym (ap (λ n. map.get n q) (sym is ∙ ap (λ o. with_first o d) some) ∙ map.get-insert nat_list_cmp_total d k c q ∙ ap (λ b. cond b (Some c) (map.get d q)) (key_test k q false apart))

  -- there is no first change
  pub get_only_more : (q : List ℕ) → first ≡ None → map.get d q ≡ map.get m q
  get_only_more q none = ap (λ n. map.get n q) (sym (ap (λ o. with_first o d) none) ∙ is)

  -- the first change is replaced
  pub insert_first : (k : List ℕ) (b c : Option Value) (q : List ℕ) → first ≡ Some (k, b) → true ≡ pointwise nat_eq k q → map.insert d k c ≡ map.insert m q c
  insert_first k b c q some same = sym (insert_again d k b c) ∙ ap (λ n. map.insert n k c) (sym (ap (λ o. with_first o d) some) ∙ is) ∙ ap (λ x. map.insert m x c) (sym (is_key-same q k (key_test k q true same)))

  -- a change goes to the others
  pub insert_more : (k : List ℕ) (b c : Option Value) (q : List ℕ) → first ≡ Some (k, b) → false ≡ pointwise nat_eq k q → map.insert (map.insert d q c) k b ≡ map.insert m q c
  insert_more k b c q some apart = insert_apart d k q b c ((eq_by_cmp_equiv nat_list_cmp_total).symm k q ∙ key_test k q false apart) ∙ ap (λ n. map.insert n q c) (sym (ap (λ o. with_first o d) some) ∙ is)

-- no change
pub applied_none : (es : List (List ℕ × Option Value)) (m : Keyspace) → length es ≡ 0 → m ≡ applied m (changes_of es)
applied_none [] m none = sym (applied_empty m)
applied_none (e ∷ es) m none = absurd (omega arith)

-- a change beside no others
pub applied_only : (es : List (List ℕ × Option Value)) (k : List ℕ) (c : Option Value) (m : Keyspace) → length es ≡ 0 → changed m k c ≡ applied m (map.insert (changes_of es) k c)
applied_only [] k c m none = sym (applied_insert m map.empty k c ∙ ap (λ n. changed n k c) (applied_empty m))
applied_only (e ∷ es) k c m none = absurd (omega arith)
