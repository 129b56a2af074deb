-- The map of a slot has the entries of the keyspace in that slot.
use Rattle.std.proofs.Common.{◌≡◌, ℕ, List, [], ◌∷◌, length, ◌<◌, inl, inr, Bool, true, false, cond, nat_eq, T, sym, ap, subst, ◌∙◌, arith}
use Rattle.std.proofs.lemmas.Bool.Decides.{eqb_tells}
use Rattle.std.proofs.lemmas.Cmp.{nat_list_cmp_total}
use Rattle.std.proofs.lemmas.Map.Lookups.{exact_bytes}
use Rattle.std.specs.Cmp.Lexicographic.{slice_cmp}
use Rattle.std.specs.FinMap as map
use Rattle.std.specs.FinMap.Entries.{is_sorted, below_all, same_entries}
use Rattle.std.specs.List.{slice_index_or, AllByRecursion}
use Rattle.std.specs.List.Sorted.{IsStrictlySortedBy}
use Rattle.std.specs.Map.{lookup, keys_of}
use Rattle.std.specs.Ordering.{nat_cmp, is_lt}
use Rattle.std.specs.Prelude.{None, ◌&&◌}
use Rattle.std.specs.declared.cmp.Ordering.TheVariants.{Less}
use Rattle.key_map.specs.KeyMap.{KeyMap, keys, IsOrdered}
use Rattle.key_slot.specs.Slot.{hash_slot}
use Rattle.keyspace.proofs.Applied.{is_key}
use Rattle.keyspace.proofs.Maps.{get_seen}
use Rattle.keyspace.specs.declared.value.Value.{Value}
use Rattle.slot_store.specs.InSlot.{in_slot}
use Rattle.slot_store.specs.Maps.{found_at, ArePlaced}
use Rattle.slot_store.proofs.Placed.{contents_of, get_placed, entries-index}

both : (a b : Bool) → T a → T b → T (a && b)
both true b p q = q
both false b p q = p

-- each key is above x
rises_from : (x : List ℕ) (es : List (List ℕ × Value)) → AllByRecursion (λ y. slice_cmp nat_cmp x y ≡ Less) (keys_of es) → T (below_all (slice_cmp nat_cmp) x es)
rises_from x [] above = tt
rises_from x (e ∷ es) above = both _ _ (subst (λ r. T (is_lt r)) (sym above.0) tt) (rises_from x es above.1)

-- the keys of a tree strictly rise
pub rises : (es : List (List ℕ × Value)) → IsStrictlySortedBy (slice_cmp nat_cmp) (keys_of es) → T (is_sorted (slice_cmp nat_cmp) es)
unfolding IsStrictlySortedBy
rises [] ordered = tt
rises (e ∷ es) ordered = both _ _ (rises_from e.0 es ordered.0) (rises es ordered.1)

module _ (maps : List (KeyMap Value)) (i : ℕ) (m : KeyMap Value) (size : length maps ≡ 16384) (placed : ArePlaced maps) (small : i < 16384) (at : m ≡ slice_index_or maps i m) where
  -- a key has the same value there
  pub get_in_slot : (q : List ℕ) → map.get (in_slot i (contents_of maps)) q ≡ lookup (is_key q) m.entries
  get_in_slot q =
      map.get-retain_keys (contents_of maps) (λ key. nat_eq (hash_slot key) i) q (λ x e. ap (λ key. nat_eq (hash_slot key) i) (sym (exact_bytes q x e)))
      ∙ elim (eqb_tells (hash_slot q) i) as (λ _. cond (nat_eq (hash_slot q) i) (map.get (contents_of maps) q) None ≡ found_at maps i q) [
        | inl there ↦ ap (λ b. cond b (map.get (contents_of maps) q) None) there.0 ∙ get_placed maps q placed ∙ ap (λ j. found_at maps j q) there.1
        | inr elsewhere ↦ ap (λ b. cond b (map.get (contents_of maps) q) None) elsewhere.0 ∙ sym (placed i q (λ e. elsewhere.1 (sym e)))
      ]
      ∙ ap (lookup (is_key q)) (entries-index maps i m (omega arith) at)

  pub entries_in_slot : IsOrdered m → m.entries ≡ map.entries (in_slot i (contents_of maps))
  entries_in_slot ordered =
      same_entries (slice_cmp nat_cmp) nat_list_cmp_total exact_bytes m.entries (map.entries (in_slot i (contents_of maps))) (rises m.entries ordered) (map.entries_sorted (in_slot i (contents_of maps)))
      (λ q. sym (map.get-from_entries nat_list_cmp_total m.entries q) ∙ get_seen nat_list_cmp_total m.entries q ∙ sym (get_in_slot q) ∙ map.get-entries _ q)

  pub len_in_slot : IsOrdered m → length m.entries ≡ map.len (in_slot i (contents_of maps))
  len_in_slot ordered = ap length (entries_in_slot ordered) ∙ sym (map.len-entries _)

  pub keys_in_slot : IsOrdered m → keys m ≡ map.keys (in_slot i (contents_of maps))
  keys_in_slot ordered = ap keys_of (entries_in_slot ordered)
