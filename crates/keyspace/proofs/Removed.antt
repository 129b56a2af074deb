-- Keys are removed.
use Rattle.std.proofs.Common.{◌≡◌, ℕ, List, [], ◌∷◌, ◌++◌, true, false, cond, refl, sym, ap, ◌∙◌}
use Rattle.std.proofs.lemmas.Cmp.{nat_list_cmp_total}
use Rattle.std.specs.FinMap as map
use Rattle.std.specs.Prelude.{Option, None}
use Rattle.keyspace.proofs.Applied.{is_key, is_key-same, same}
use Rattle.keyspace.specs.Commit.{without}
use Rattle.keyspace.specs.Keyspace.{Keyspace}
use Rattle.keyspace.specs.declared.value.Value.{Value}

-- a key is removed that is not there
pub remove_absent : (m : Keyspace) (k : List ℕ) → map.get m k ≡ None → map.remove m k ≡ m
remove_absent m k none =
    same _ _ (λ q.
    map.get-remove nat_list_cmp_total m k q
    ∙ elim (is_key q k) as (λ b. is_key q k ≡ b → cond b None (map.get m q) ≡ map.get m q) [
      | true ↦ λ t. sym (ap (map.get m) (is_key-same q k t) ∙ none)
      | false ↦ λ t. refl
    ] refl)

-- two keys are removed in either order
either_order : (m : Keyspace) (j k : List ℕ) → map.remove (map.remove m j) k ≡ map.remove (map.remove m k) j
either_order m j k =
    same _ _ (λ q.
    map.get-remove nat_list_cmp_total (map.remove m j) k q ∙ ap (cond (is_key q k) None) (map.get-remove nat_list_cmp_total m j q)
    ∙ elim (is_key q k) as (λ b. cond {A = Option Value} b None (cond (is_key q j) None (map.get m q)) ≡ cond (is_key q j) None (cond b None (map.get m q))) [
      | true ↦ elim (is_key q j) as (λ b. None ≡ cond {A = Option Value} b None None) [ true ↦ refl | false ↦ refl ]
      | false ↦ refl
    ]
    ∙ ap (cond (is_key q j) None) (sym (map.get-remove nat_list_cmp_total m k q)) ∙ sym (map.get-remove nat_list_cmp_total (map.remove m k) j q))

-- the last key of a list may be removed first
pub without_last : (m : Keyspace) (ks : List (List ℕ)) (k : List ℕ) → without m (ks ++ k ∷ []) ≡ without (map.remove m k) ks
without_last m [] k = refl
without_last m (j ∷ ks) k = without_last (map.remove m j) ks k ∙ ap (λ n. without n ks) (either_order m j k)
