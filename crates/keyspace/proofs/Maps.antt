-- The entries of an ordered map, seen as a finite map.
use Rattle.std.proofs.Common.{◌≡◌, List, [], ◌∷◌, cond, refl, sym, ap, ◌∙◌}
use Rattle.std.proofs.lemmas.Cmp.{eq_by_cmp_equiv}
use Rattle.std.specs.Cmp.{IsTotalOrder}
use Rattle.std.specs.FinMap as map
use Rattle.std.specs.FinMap.Entries.{find}
use Rattle.std.specs.FinMap.{IsAntisymmetric}
use Rattle.std.specs.Map.{lookup}
use Rattle.std.specs.Ordering.{eq_by_cmp}
use Rattle.std.specs.Prelude.{Some, None}
use Rattle.std.specs.declared.cmp.Ordering.{Ordering}

-- a finite map and a look-up find the same in a list of entries
find-lookup : {K X : Type 0} (R : K → K → Ordering) (q : K) (es : List (K × X)) → find R q es ≡ lookup (eq_by_cmp R q) es
find-lookup R q [] = refl
find-lookup R q (e ∷ es) = ap (cond (eq_by_cmp R q e.0) (Some e.1)) (find-lookup R q es)

module _ {K X : Type 0} {R : K → K → Ordering} (o : IsTotalOrder R) where
  -- it answers what a look-up in them does
  pub get_seen : (es : List (K × X)) (q : K) → map.get (map.from_entries {R = R} es) q ≡ lookup (eq_by_cmp R q) es
  get_seen es q = map.get-from_entries o es q ∙ find-lookup R q es

  -- a value is put
  pub seen_insert : IsAntisymmetric R → (es fs : List (K × X)) (k : K) (v : X) → ((q : K) → lookup (eq_by_cmp R q) fs ≡ cond (eq_by_cmp R k q) (Some v) (lookup (eq_by_cmp R q) es)) → map.from_entries {R = R} fs ≡ map.insert (map.from_entries es) k v
  seen_insert same es fs k v puts =
      map.same_map o same _ _ (λ q.
      get_seen fs q ∙ puts q ∙ ap (λ b. cond b (Some v) (lookup (eq_by_cmp R q) es)) ((eq_by_cmp_equiv o).symm k q)
      ∙ ap (cond (eq_by_cmp R q k) (Some v)) (sym (get_seen es q)) ∙ sym (map.get-insert o _ k v q))

  -- a key is taken out
  pub seen_remove : IsAntisymmetric R → (es fs : List (K × X)) (k : K) → ((q : K) → lookup (eq_by_cmp R q) fs ≡ cond (eq_by_cmp R k q) None (lookup (eq_by_cmp R q) es)) → map.from_entries {R = R} fs ≡ map.remove (map.from_entries es) k
  seen_remove same es fs k takes =
      map.same_map o same _ _ (λ q.
      get_seen fs q ∙ takes q ∙ ap (λ b. cond b None (lookup (eq_by_cmp R q) es)) ((eq_by_cmp_equiv o).symm k q)
      ∙ ap (cond (eq_by_cmp R q k) None) (sym (get_seen es q)) ∙ sym (map.get-remove o _ k q))
