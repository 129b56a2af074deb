-- Changes are parted: the values that are put, and the keys that are removed.
use Rattle.std.proofs.Common.{◌≡◌, ◌<◌, ℕ, length, List, [], ◌∷◌, ◌++◌, true, false, cond, arith, refl, sym, ap, ◌∙◌, true≢false}
use Rattle.std.proofs.lemmas.Cmp.{nat_list_cmp_total}
use Rattle.std.specs.FinMap as map
use Rattle.std.specs.Prelude.{Option, Some, None, Result, Ok, Err, OnOk, OnErr, IsOk, is_ok}
use Rattle.keyspace.proofs.Applied.{applied_done, applied_empty, applied_insert, is_key, is_key-same, same}
use Rattle.keyspace.proofs.Removed.{without_last}
use Rattle.keyspace.specs.Changes.{Changes, changes_of, applied}
use Rattle.keyspace.specs.Commit.{without}
use Rattle.keyspace.specs.Keyspace.{Keyspace}
use Rattle.keyspace.specs.Putting.{with_pairs}
use Rattle.keyspace.specs.declared.value.Value.{Value}

-- what holds on success, where there is success
pub on_ok : {A E : Type 0} (r : Result A E) (P : Type 0) → OnOk r P → true ≡ is_ok r → P
on_ok (Ok a) P holds ok = holds
on_ok (Err e) P holds ok = absurd (true≢false ok)

-- what follows from what holds on success
pub on_ok_then : {A E : Type 0} (r : Result A E) {P Q : Type 0} → (P → Q) → OnOk r P → OnOk r Q
on_ok_then (Ok a) so holds = so holds
on_ok_then (Err e) so holds = tt

-- there is success where what holds otherwise can't
pub ok_unless : {A E : Type 0} (r : Result A E) {P : Type 0} → (P → ⊥) → OnErr r P → IsOk r
ok_unless (Ok a) not holds = refl
ok_unless (Err e) not holds = absurd (not holds)

-- the last value of a list is put last
pairs_last : (m : Keyspace) (pairs : List (List ℕ × Value)) (k : List ℕ) (v : Value) → with_pairs m (pairs ++ (k, v) ∷ []) ≡ map.insert (with_pairs m pairs) k v
pairs_last m [] k v = refl
pairs_last m (pair ∷ pairs) k v = pairs_last (map.insert m pair.0 pair.1) pairs k v

-- a change that was taken out is put back
taken_out : (d : Changes) (k : List ℕ) (c : Option Value) → map.get d k ≡ Some c → map.insert (map.remove d k) k c ≡ d
taken_out d k c has =
    same _ _ (λ q.
    map.get-insert nat_list_cmp_total (map.remove d k) k c q ∙ ap (cond (is_key q k) (Some c)) (map.get-remove nat_list_cmp_total d k q)
    ∙ elim (is_key q k) as (λ b. is_key q k ≡ b → cond b (Some c) (cond b None (map.get d q)) ≡ map.get d q) [
      | true ↦ λ t. sym (ap (map.get d) (is_key-same q k t) ∙ has)
      | false ↦ λ t. refl
    ] refl)

-- one change is taken: the changes es without it are fs
module _ (es fs : List (List ℕ × Option Value)) (k : List ℕ) (c : Option Value) (left : changes_of fs ≡ map.remove (changes_of es) k) (has : map.get (changes_of es) k ≡ Some c) (m : Keyspace) where
  -- it is a value, which is put
  pub put_pass : (before after : List (List ℕ × Value)) (v : Value) → c ≡ Some v → after ≡ before ++ (k, v) ∷ [] → applied (with_pairs m after) (changes_of fs) ≡ applied (with_pairs m before) (changes_of es)
  put_pass before after v is more =
      ap (λ pairs. applied (with_pairs m pairs) (changes_of fs)) more ∙ ap (λ n. applied n (changes_of fs)) (pairs_last m before k v)
      ∙ ap (applied (map.insert (with_pairs m before) k v)) left ∙ applied_done (with_pairs m before) (changes_of es) k (Some v) (has ∙ ap Some is)

  -- or the key is removed
  pub removed_pass : (before after : List (List ℕ)) → c ≡ None → after ≡ before ++ k ∷ [] → without (applied m (changes_of fs)) after ≡ without (applied m (changes_of es)) before
  removed_pass before after is more =
      ap (without (applied m (changes_of fs))) more ∙ without_last (applied m (changes_of fs)) before k
      ∙ ap (λ n. without n before) (sym (applied_insert m (changes_of fs) k None) ∙ ap (applied m) (ap (λ d. map.insert d k None) left ∙ taken_out (changes_of es) k None (has ∙ ap Some is)))

-- no change is left
pub applied_all : (m : Keyspace) (es : List (List ℕ × Option Value)) → (0 < length es → false ≡ true) → m ≡ applied m (changes_of es)
applied_all m [] none = sym (applied_empty m)
applied_all m (e ∷ es) none = absurd (true≢false (sym (none (omega arith))))
