-- The value at a key once changes are made.
use Rattle.std.proofs.Common.{◌≡◌, ℕ, List, [], ◌∷◌, Bool, true, false, cond, refl, sym, ap, ◌∙◌}
use Rattle.std.proofs.lemmas.Cmp.{nat_list_cmp_total}
use Rattle.std.proofs.lemmas.Map.Lookups.{exact_bytes}
use Rattle.std.proofs.lemmas.Map.Views.{tells_apart}
use Rattle.std.specs.Cmp.Lexicographic.{slice_cmp}
use Rattle.std.specs.FinMap as map
use Rattle.std.specs.FinMap.Entries.{find}
use Rattle.std.specs.FinMap.{FinMap}
use Rattle.std.specs.Ordering.{nat_cmp, eq_by_cmp}
use Rattle.std.specs.Prelude.{Option, Some, None}
use Rattle.keyspace.specs.Keyspace.{Keyspace, changed}
use Rattle.keyspace.specs.Changes.{Changes, change_each, applied}
use Rattle.keyspace.specs.declared.value.Value.{Value}

-- whether two keys are one
abbrev pub is_key : List ℕ → List ℕ → Bool
is_key = eq_by_cmp (slice_cmp nat_cmp)

-- keys that compare equal are equal
pub is_key-same : (q k : List ℕ) → is_key q k ≡ true → q ≡ k
is_key-same = tells_apart exact_bytes

-- maps with the same value at each key are equal
pub same : {X : Type 0} (m n : FinMap (slice_cmp nat_cmp) X) → ((q : List ℕ) → map.get m q ≡ map.get n q) → m ≡ n
same = map.same_map nat_list_cmp_total exact_bytes

-- the value after a change, if there is one
abbrev pub value_after : Option (Option Value) → Option Value → Option Value
value_after None old = old
value_after (Some change) old = change

-- the value at a key after one change
pub get_changed : (m : Keyspace) (k : List ℕ) (c : Option Value) (q : List ℕ) → map.get (changed m k c) q ≡ cond (is_key q k) c (map.get m q)
get_changed m k (Some v) q = map.get-insert nat_list_cmp_total m k v q
get_changed m k None q = map.get-remove nat_list_cmp_total m k q

-- the value at a key after the changes of a list
get-change_each : (m : Keyspace) (es : List (List ℕ × Option Value)) (q : List ℕ) → map.get (change_each m es) q ≡ value_after (find (slice_cmp nat_cmp) q es) (map.get m q)
get-change_each m [] q = refl
get-change_each m (e ∷ es) q =
    get_changed (change_each m es) e.0 e.1 q ∙ ap (cond (is_key q e.0) e.1) (get-change_each m es q)
    ∙ elim (is_key q e.0) as (λ b. cond b e.1 (value_after (find (slice_cmp nat_cmp) q es) (map.get m q)) ≡ value_after (cond b (Some e.1) (find (slice_cmp nat_cmp) q es)) (map.get m q)) [ true ↦ refl | false ↦ refl ]

-- the value at a key after all changes
pub get_applied : (m : Keyspace) (d : Changes) (q : List ℕ) → map.get (applied m d) q ≡ value_after (map.get d q) (map.get m q)
unfolding applied
get_applied m d q = get-change_each m (map.entries d) q ∙ ap (λ o. value_after o (map.get m q)) (sym (map.get-entries d q))

-- no changes
pub applied_empty : (m : Keyspace) → applied m map.empty ≡ m
applied_empty m = same _ _ (λ q. get_applied m map.empty q ∙ ap (λ o. value_after o (map.get m q)) (map.get-empty (slice_cmp nat_cmp) q))

-- one more change
pub applied_insert : (m : Keyspace) (d : Changes) (k : List ℕ) (c : Option Value) → applied m (map.insert d k c) ≡ changed (applied m d) k c
applied_insert m d k c =
    same _ _ (λ q.
    get_applied m (map.insert d k c) q ∙ ap (λ o. value_after o (map.get m q)) (map.get-insert nat_list_cmp_total d k c q)
    ∙ elim (is_key q k) as (λ b. value_after (cond b (Some c) (map.get d q)) (map.get m q) ≡ cond b c (value_after (map.get d q) (map.get m q))) [ true ↦ refl | false ↦ refl ]
    ∙ ap (cond (is_key q k) c) (sym (get_applied m d q)) ∙ sym (get_changed (applied m d) k c q))

-- one change is made and removed from those that are left
pub applied_done : (m : Keyspace) (d : Changes) (k : List ℕ) (c : Option Value) → map.get d k ≡ Some c → applied (changed m k c) (map.remove d k) ≡ applied m d
applied_done m d k c has =
    same _ _ (λ q.
    get_applied (changed m k c) (map.remove d k) q ∙ ap (λ o. value_after o (map.get (changed m k c) q)) (map.get-remove nat_list_cmp_total d k q)
    ∙ ap (value_after (cond (is_key q k) None (map.get d q))) (get_changed m k c q)
    ∙ elim (is_key q k) as (λ b. is_key q k ≡ b → value_after (cond b None (map.get d q)) (cond b c (map.get m q)) ≡ value_after (map.get d q) (map.get m q)) [
      | true ↦ λ t. ap (λ o. value_after o (map.get m q)) (sym has ∙ ap (map.get d) (sym (is_key-same q k t)))
      | false ↦ λ t. refl
    ] refl
    ∙ sym (get_applied m d q))

-- a change replaces one at the same key
pub insert_again : (d : Changes) (k : List ℕ) (b c : Option Value) → map.insert (map.insert d k b) k c ≡ map.insert d k c
insert_again d k b c =
    same _ _ (λ q.
    map.get-insert nat_list_cmp_total (map.insert d k b) k c q ∙ ap (cond (is_key q k) (Some c)) (map.get-insert nat_list_cmp_total d k b q)
    ∙ elim (is_key q k) as (λ t. cond t (Some c) (cond t (Some b) (map.get d q)) ≡ cond t (Some c) (map.get d q)) [ true ↦ refl | false ↦ refl ]
    ∙ sym (map.get-insert nat_list_cmp_total d k c q))

-- changes at two keys come in either order
pub insert_apart : (d : Changes) (j k : List ℕ) (b c : Option Value) → is_key j k ≡ false → map.insert (map.insert d k c) j b ≡ map.insert (map.insert d j b) k c
insert_apart d j k b c apart =
    same _ _ (λ q.
    map.get-insert nat_list_cmp_total (map.insert d k c) j b q ∙ ap (cond (is_key q j) (Some b)) (map.get-insert nat_list_cmp_total d k c q)
    ∙ elim (is_key q j) as (λ t. is_key q j ≡ t → cond t (Some b) (cond (is_key q k) (Some c) (map.get d q)) ≡ cond (is_key q k) (Some c) (cond t (Some b) (map.get d q))) [
      | true ↦ λ t. ap (λ s. cond s (Some c) (Some b)) (sym (ap (λ x. is_key x k) (is_key-same q j t) ∙ apart))
      | false ↦ λ t. refl
    ] refl
    ∙ ap (cond (is_key q k) (Some c)) (sym (map.get-insert nat_list_cmp_total d j b q)) ∙ sym (map.get-insert nat_list_cmp_total (map.insert d j b) k c q))
