-- Values are put at keys, and what the keys had before is put back.
use Rattle.std.proofs.Common.{◌≡◌, ℕ, List, [], ◌∷◌, ◌++◌, true, false, cond, refl, sym, ap, subst, ◌∙◌}
use Rattle.std.proofs.lemmas.Cmp.{nat_list_cmp_total}
use Rattle.std.specs.FinMap as map
use Rattle.std.specs.Prelude.{Option, Some, is_some}
use Rattle.command_table.specs.Keys.{pair_keys}
use Rattle.keyspace.proofs.Applied.{applied_insert, get_changed, is_key, is_key-same, same}
use Rattle.keyspace.proofs.InPlace.{get_changed_itself}
use Rattle.keyspace.specs.Changes.{Changes, applied, change_each}
use Rattle.keyspace.specs.Commands.{with_values}
use Rattle.keyspace.specs.Commit.{AddsNoKey, AddNoKeys}
use Rattle.keyspace.specs.Keyspace.{Keyspace, changed}
use Rattle.keyspace.specs.Putting.{string_pairs, with_pairs}
use Rattle.keyspace.specs.Strings.{strings_left}
use Rattle.keyspace.specs.declared.value.Value.{Value}
use Rattle.keyspace.specs.declared.value.Value.TheVariants.{Str}

-- ---- putting

-- an MSET leaves the strings of its pairs
pub strings_put : (m : Keyspace) (pairs : List (List ℕ × List ℕ)) → with_pairs m (string_pairs pairs) ≡ with_values m (pair_keys pairs) (strings_left pairs)
strings_put m [] = refl
strings_put m (pair ∷ pairs) = strings_put (map.insert m pair.0 (Str pair.1)) pairs

-- once a value is planned, the pairs after it lead to the same keyspace
pub pair_planned : (m : Keyspace) (old new : Changes) (key : List ℕ) (value : Value) (rest : List (List ℕ × Value)) → new ≡ map.insert old key (Some value) → with_pairs (applied m new) rest ≡ with_pairs (applied m old) ((key, value) ∷ rest)
pair_planned m old new key value rest made = ap (λ k. with_pairs k rest) (ap (applied m) made ∙ applied_insert m old key (Some value))

-- ---- putting back

-- a key gets back what it had
restored : (m : Keyspace) (k : List ℕ) (v : Value) → changed (map.insert m k v) k (map.get m k) ≡ m
restored m k v =
    same _ _ (λ q.
    get_changed (map.insert m k v) k (map.get m k) q ∙ ap (cond (is_key q k) (map.get m k)) (map.get-insert nat_list_cmp_total m k v q)
    ∙ elim (is_key q k) as (λ b. is_key q k ≡ b → cond b (map.get m k) (cond b (Some v) (map.get m q)) ≡ map.get m q) [
      | true ↦ λ t. ap (map.get m) (sym (is_key-same q k t))
      | false ↦ λ t. refl
    ] refl)

-- the last change of a list is made first
change_last : (m : Keyspace) (es : List (List ℕ × Option Value)) (k : List ℕ) (c : Option Value) → change_each m (es ++ (k, c) ∷ []) ≡ change_each (changed m k c) es
change_last m [] k c = refl
change_last m (e ∷ es) k c = ap (λ n. changed n e.0 e.1) (change_last m es k c)

-- one change more, which is made first
over_more : (m : Keyspace) (es : List (List ℕ × Option Value)) (k : List ℕ) (c : Option Value) → AddsNoKey m k c → AddNoKeys (changed m k c) es → AddNoKeys m (es ++ (k, c) ∷ [])
over_more m [] k c one others = (tt, one)
over_more m (e ∷ es) k c one others = (over_more m es k c one others.0, subst (λ n. AddsNoKey n e.0 e.1) (sym (change_last m es k c)) others.1)

-- the change that is made first
first_over : (m : Keyspace) (es : List (List ℕ × Option Value)) (k : List ℕ) (c : Option Value) → AddNoKeys m (es ++ (k, c) ∷ []) → AddsNoKey m k c
first_over m [] k c over = over.1
first_over m (e ∷ es) k c over = first_over m es k c over.0

-- and those that are made after it
others_over : (m : Keyspace) (es : List (List ℕ × Option Value)) (k : List ℕ) (c : Option Value) → AddNoKeys m (es ++ (k, c) ∷ []) → AddNoKeys (changed m k c) es
others_over m [] k c over = tt
others_over m (e ∷ es) k c over = (others_over m es k c over.0, subst (λ n. AddsNoKey n e.0 e.1) (change_last m es k c) over.1)

-- the last change of a list is left over and made: before it there are the changes es, and all are fs
module _ (m : Keyspace) (es fs : List (List ℕ × Option Value)) (k : List ℕ) (c : Option Value) (left : fs ≡ es ++ (k, c) ∷ []) where
  -- it adds no key
  pub last_over : AddNoKeys m fs → AddsNoKey m k c
  last_over over = first_over m es k c (subst (AddNoKeys m) left over)

  module _ (n : Keyspace) (made : n ≡ changed m k c) where
    -- the others lead to the same keyspace
    pub restored_pass : change_each n es ≡ change_each m fs
    restored_pass = ap (λ x. change_each x es) made ∙ sym (ap (change_each m) left ∙ change_last m es k c)

    -- and add no key
    pub over_pass : AddNoKeys m fs → AddNoKeys n es
    over_pass over = subst (λ x. AddNoKeys x es) (sym made) (others_over m es k c (subst (AddNoKeys m) left over))

-- a value is put at a key, and what it had is kept
module _ (m n : Keyspace) (k : List ℕ) (v : Value) (es fs : List (List ℕ × Option Value)) (put : n ≡ map.insert m k v) (kept : fs ≡ es ++ (k, map.get m k) ∷ []) where
  back : changed n k (map.get m k) ≡ m
  back = ap (λ x. changed x k (map.get m k)) put ∙ restored m k v

  -- what was kept leads back from the keyspace with one value more, too
  pub back_more : change_each n fs ≡ change_each m es
  back_more = ap (change_each n) kept ∙ change_last n es k (map.get m k) ∙ ap (λ x. change_each x es) back

  -- and finds all keys there
  pub over_put : AddNoKeys m es → AddNoKeys n fs
  over_put over =
      subst (AddNoKeys n) (sym kept) (over_more n es k (map.get m k)
      (λ has. ap (λ x. is_some (map.get x k)) put ∙ ap is_some (get_changed_itself m k (Some v)))
      (subst (λ x. AddNoKeys x es) (sym back) over))
