-- Finite maps with numbers for keys.
use Rattle.std.proofs.Common.{◌≡◌, ◌≢◌, ℕ, Bool, true, false, cond, sym, ap, ◌∙◌}
use Rattle.std.proofs.lemmas.Bool.{false_from_ne_true}
use Rattle.std.proofs.lemmas.Cmp.{nat_cmp_total, eq_by_cmp_equiv}
use Rattle.std.proofs.lemmas.Map.Views.{tells_apart}
use Rattle.std.specs.FinMap as map
use Rattle.std.specs.FinMap.{nat_cmp-IsAntisymmetric}
use Rattle.std.specs.Ordering.{nat_cmp, eq_by_cmp}
use Rattle.std.specs.Prelude.{Some, None}

pub one_number : (k : ℕ) → eq_by_cmp nat_cmp k k ≡ true
one_number k = (eq_by_cmp_equiv nat_cmp_total).refl k

pub two_numbers : (q k : ℕ) → q ≢ k → eq_by_cmp nat_cmp q k ≡ false
two_numbers q k apart = false_from_ne_true (eq_by_cmp nat_cmp q k) (λ same. apart (tells_apart nat_cmp-IsAntisymmetric q k same))

module _ {V : Type 0} (m : map.FinMap nat_cmp V) (k : ℕ) where
  pub put_here : (v : V) → map.get (map.insert m k v) k ≡ Some v
  put_here v = map.get-insert nat_cmp_total m k v k ∙ ap (λ b. cond b (Some v) (map.get m k)) (one_number k)

  pub put_apart : (v : V) (q : ℕ) → q ≢ k → map.get (map.insert m k v) q ≡ map.get m q
  put_apart v q apart = map.get-insert nat_cmp_total m k v q ∙ ap (λ b. cond b (Some v) (map.get m q)) (two_numbers q k apart)

  pub gone_here : map.get (map.remove m k) k ≡ None
  gone_here = map.get-remove nat_cmp_total m k k ∙ ap (λ b. cond b None (map.get m k)) (one_number k)

  pub gone_apart : (q : ℕ) → q ≢ k → map.get (map.remove m k) q ≡ map.get m q
  gone_apart q apart = map.get-remove nat_cmp_total m k q ∙ ap (λ b. cond b None (map.get m q)) (two_numbers q k apart)

  -- what is retained by a test
  pub retained_here : (test : ℕ → Bool) → map.get (map.retain_keys m test) k ≡ cond (test k) (map.get m k) None
  retained_here test = map.get-retain_keys m test k (λ x same. ap test (sym (nat_cmp-IsAntisymmetric k x same)))
