-- The value of one key is changed in place, in a map.
use Rattle.std.proofs.Common.{◌≡◌, ℕ, List, [], Bool, true, false, cond, if◌then◌else◌, Option, Some, None, Result, Ok, Err, OnOk, OnErr, refl, sym, ap, ◌∙◌}
use Rattle.std.proofs.lemmas.Cmp.{nat_list_cmp_total, eq_by_cmp_equiv}
use Rattle.std.specs.FinMap as map
use Rattle.hash.specs.Pairs.{Changes, fields_changed}
use Rattle.keyspace.proofs.Applied.{is_key, is_key-same, get_changed, same}
use Rattle.keyspace.proofs.Removed.{remove_absent}
use Rattle.keyspace.specs.Keyspace.{Keyspace, appended, changed, fields_left, hash_of, with_appended, with_fields}
use Rattle.keyspace.specs.declared.value.Value.{Value}
use Rattle.keyspace.specs.declared.value.Value.TheVariants.{Str}

-- a key that gets the value that it has changes nothing
pub changed_same : (m : Keyspace) (k : List ℕ) → changed m k (map.get m k) ≡ m
changed_same m k =
    same _ _ (λ q.
    get_changed m k (map.get m k) q
    ∙ elim (is_key q k) as (λ b. is_key q k ≡ b → cond b (map.get m k) (map.get m q) ≡ map.get m q) [
      | true ↦ λ t. ap (map.get m) (sym (is_key-same q k t))
      | false ↦ λ t. refl
    ] refl)

-- a key has the value that it got
pub get_changed_itself : (m : Keyspace) (k : List ℕ) (w : Option Value) → map.get (changed m k w) k ≡ w
get_changed_itself m k w = get_changed m k w k ∙ ap (λ b. cond b w (map.get m k)) ((eq_by_cmp_equiv nat_list_cmp_total).refl k)

-- of two changes at one key the later one counts
changed_again : (m : Keyspace) (k : List ℕ) (v w : Option Value) → changed (changed m k v) k w ≡ changed m k w
changed_again m k v w =
    same _ _ (λ q.
    get_changed (changed m k v) k w q ∙ ap (cond (is_key q k) w) (get_changed m k v q)
    ∙ elim (is_key q k) as (λ b. cond b w (cond b v (map.get m q)) ≡ cond b w (map.get m q)) [ true ↦ refl | false ↦ refl ]
    ∙ sym (get_changed m k w q))

-- the value was refused its changes
pub put_back : (m n : Keyspace) (k : List ℕ) (old new : Value) → map.get m k ≡ Some old → n ≡ map.insert m k new → new ≡ old → n ≡ m
put_back m n k old new has put same = put ∙ ap (map.insert m k) same ∙ ap (changed m k) (sym has) ∙ changed_same m k

module _ (m n : Keyspace) (k bytes : List ℕ) where
  -- a missing string begins with the bytes
  pub first_bytes : map.get m k ≡ None → n ≡ map.insert m k (Str bytes) → n ≡ with_appended m k bytes
  first_bytes none put = put ∙ ap (λ v. map.insert m k (appended v bytes)) (sym none)

  -- the bytes were put behind the value
  pub more_bytes : (old new : Value) → map.get m k ≡ Some old → n ≡ map.insert m k new → new ≡ appended (Some old) bytes → n ≡ with_appended m k bytes
  more_bytes old new has put is = put ∙ ap (map.insert m k) is ∙ ap (λ v. map.insert m k (appended v bytes)) (sym has)

module _ (m : Keyspace) (k : List ℕ) (changes : Changes) where
  -- a missing hash gets its first fields
  pub first_fields : (n : Keyspace) (value : Value) → map.get m k ≡ None → hash_of (fields_changed [] changes) ≡ Some value → n ≡ map.insert m k value → n ≡ with_fields m k changes
  first_fields n value none made is = is ∙ ap (changed m k) (sym made) ∙ ap (λ v. changed m k (fields_left v changes)) (sym none)

  -- or none
  pub no_fields : map.get m k ≡ None → hash_of (fields_changed [] changes) ≡ None → m ≡ with_fields m k changes
  no_fields none made = sym (remove_absent m k none) ∙ ap (changed m k) (sym made) ∙ ap (λ v. changed m k (fields_left v changes)) (sym none)

  module _ (n : Keyspace) (old new : Value) (has : map.get m k ≡ Some old) (put : n ≡ map.insert m k new) where
    -- the value is left
    pub put_changed : fields_left (Some old) changes ≡ Some new → n ≡ with_fields m k changes
    put_changed left = put ∙ ap (changed m k) (sym left) ∙ ap (λ v. changed m k (fields_left v changes)) (sym has)

    -- the value has no field left, and is removed
    pub removed_again : (p : Keyspace) → fields_left (Some old) changes ≡ None → p ≡ map.remove n k → p ≡ with_fields m k changes
    removed_again p left gone =
        gone ∙ ap (λ x. map.remove x k) put ∙ changed_again m k (Some new) None ∙ ap (changed m k) (sym left) ∙ ap (λ v. changed m k (fields_left v changes)) (sym has)

-- where there is none, what follows holds too
pub ok_leads : {T E P Q : Type 0} (r : Result T E) → (P → Q) → OnOk r P → OnOk r Q
ok_leads (Ok x) leads p = leads p
ok_leads (Err e) leads p = tt

-- and so where there is one
pub err_leads : {T E P Q : Type 0} (r : Result T E) → (P → Q) → OnErr r P → OnErr r Q
err_leads (Ok x) leads p = tt
err_leads (Err e) leads p = leads p

-- what holds where there is an error
pub on_err : {T E P : Type 0} (r : Result T E) → P → OnErr r P
on_err (Ok x) p = tt
on_err (Err e) p = p

pub if_true : {A : Type 0} (b : Bool) (x y z : A) → z ≡ (if b then x else y) → b ≡ true → z ≡ x
if_true b x y z is holds = is ∙ ap (λ t. if t then x else y) holds

pub if_false : {A : Type 0} (b : Bool) (x y z : A) → z ≡ (if b then x else y) → b ≡ false → z ≡ y
if_false b x y z is fails = is ∙ ap (λ t. if t then x else y) fails
