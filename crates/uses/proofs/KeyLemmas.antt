-- What stands at a key once keys were set.
use Rattle.std.proofs.Common.{◌≡◌, ◌≢◌, ℕ, List, Bool, cond, true, false, refl, ap, ◌∙◌}
use Rattle.std.proofs.lemmas.Cmp.{nat_list_cmp_total, eq_by_cmp_equiv}
use Rattle.std.proofs.lemmas.Map.Lookups.{exact_bytes}
use Rattle.std.proofs.lemmas.Map.Views.{tells_apart}
use Rattle.std.specs.Cmp.Lexicographic.{slice_cmp}
use Rattle.std.specs.FinMap as map
use Rattle.std.specs.Ordering.{nat_cmp, eq_by_cmp}
use Rattle.std.specs.Prelude.{Some}
use Rattle.keyspace.specs.Keyspace.{Keyspace}
use Rattle.keyspace.specs.declared.value.Value.{Value}
use Rattle.keyspace.specs.declared.value.Value.TheVariants.{Str}

-- the key that was set
pub get_set : (m : Keyspace) (k : List ℕ) (v : Value) → map.get (map.insert m k v) k ≡ Some v
get_set m k v =
    map.get-insert nat_list_cmp_total m k v k
    ∙ ap (λ b. cond b (Some v) (map.get m k)) ((eq_by_cmp_equiv nat_list_cmp_total).refl k)

-- another key
pub get_other : (m : Keyspace) (k : List ℕ) (v : Value) (q : List ℕ) → q ≢ k → map.get (map.insert m k v) q ≡ map.get m q
get_other m k v q other = map.get-insert nat_list_cmp_total m k v q ∙ apart (eq_by_cmp (slice_cmp nat_cmp) q k) (tells_apart exact_bytes q k)
  where
    apart : (b : Bool) → (b ≡ true → q ≡ k) → cond b (Some v) (map.get m q) ≡ map.get m q
    apart true same = absurd (other (same refl))
    apart false same = refl

-- the first of two keys
pub get_first : (m : Keyspace) (k : List ℕ) (v : Value) (l : List ℕ) (w : Value) → k ≢ l → map.get (map.insert (map.insert m k v) l w) k ≡ Some v
get_first m k v l w apart = get_other (map.insert m k v) l w k apart ∙ get_set m k v

-- a third key
pub get_third : (m : Keyspace) (k : List ℕ) (v : Value) (l : List ℕ) (w : Value) (q : List ℕ) → q ≢ k → q ≢ l → map.get (map.insert (map.insert m k v) l w) q ≡ map.get m q
get_third m k v l w q one two = get_other (map.insert m k v) l w q two ∙ get_other m k v q one

-- two keys are put by words that are theirs
pub put_words : (m : Keyspace) (a b c d k v l w : List ℕ) → a ≡ k → b ≡ v → c ≡ l → d ≡ w → map.insert (map.insert m a (Str b)) c (Str d) ≡ map.insert (map.insert m k (Str v)) l (Str w)
put_words m a b c d k v l w ak bv cl dw = λ i. map.insert (map.insert m (ak i) (Str (bv i))) (cl i) (Str (dw i))
