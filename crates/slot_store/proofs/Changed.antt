-- One map of a store is replaced by another.
use Rattle.std.proofs.Common.{◌≡◌, ◌≢◌, inl, inr, ℕ, zero, suc, List, [], ◌∷◌, length, ◌<◌, true, false, cond, refl, sym, ap, ◌∙◌, arith, length-set}
use Rattle.std.proofs.lemmas.Bool.Decides.{eqb_tells}
use Rattle.std.proofs.lemmas.Cmp.{nat_list_cmp_total, eq_by_cmp_equiv}
use Rattle.std.specs.FinMap as map
use Rattle.std.specs.List.{slice_index_or, slice_set}
use Rattle.std.specs.Map.{lookup}
use Rattle.std.specs.Prelude.{Option, Result, Ok, Err, OnErr}
use Rattle.key_map.specs.KeyMap.{KeyMap}
use Rattle.key_slot.specs.Slot.{hash_slot}
use Rattle.keyspace.proofs.Applied.{is_key, is_key-same, get_changed}
use Rattle.keyspace.proofs.Applied.{same as same_keyspace}
use Rattle.keyspace.specs.Keyspace.{changed}
use Rattle.keyspace.specs.declared.value.Value.{Value}
use Rattle.slot_store.specs.Maps.{entries_at, found_at, ArePlaced}
use Rattle.slot_store.proofs.Placed.{contents_of, get_placed, entries-index}

module _ {X : Type 0} where
  pub entries-set : (maps : List (KeyMap X)) (i : ℕ) (n : KeyMap X) → i < length maps → entries_at (slice_set maps i n) i ≡ n.entries
  entries-set [] i n below = absurd (omega arith)
  entries-set (m ∷ maps) zero n below = refl
  entries-set (m ∷ maps) (suc i) n below = entries-set maps i n (omega arith)

  pub entries-set_other : (maps : List (KeyMap X)) (i j : ℕ) (n : KeyMap X) → j ≢ i → entries_at (slice_set maps i n) j ≡ entries_at maps j
  entries-set_other [] i j n other = refl
  entries-set_other (m ∷ maps) zero zero n other = absurd (other refl)
  entries-set_other (m ∷ maps) zero (suc j) n other = refl
  entries-set_other (m ∷ maps) (suc i) zero n other = refl
  entries-set_other (m ∷ maps) (suc i) (suc j) n other = entries-set_other maps i j n (λ e. other (ap suc e))

-- where there is an error, P holds as ever
pub on_err : {T E P : Type 0} (r : Result T E) → P → OnErr r P
on_err (Ok x) p = tt
on_err (Err e) p = p

-- the map at the slot of k has w at k, and at other keys what it had before
module _ (maps : List (KeyMap Value)) (i : ℕ) (m n : KeyMap Value) (k : List ℕ) (w : Option Value)
    (size : length maps ≡ 16384) (placed : ArePlaced maps) (small : i < 16384) (at : m ≡ slice_index_or maps i m) (slot : i ≡ hash_slot k)
    (updates : (q : List ℕ) → lookup (is_key q) n.entries ≡ cond (is_key k q) w (lookup (is_key q) m.entries)) where
  found_there : (q : List ℕ) → found_at (slice_set maps i n) i q ≡ cond (is_key k q) w (found_at maps i q)
  found_there q =
      ap (lookup (is_key q)) (entries-set maps i n (omega arith)) ∙ updates q
      ∙ ap (λ es. cond (is_key k q) w (lookup (is_key q) es)) (sym (entries-index maps i m (omega arith) at))

  found_elsewhere : (j : ℕ) (q : List ℕ) → j ≢ i → found_at (slice_set maps i n) j q ≡ found_at maps j q
  found_elsewhere j q other = ap (lookup (is_key q)) (entries-set_other maps i j n other)

  -- a key of another slot is another key
  other_key : (q : List ℕ) → hash_slot q ≢ i → is_key k q ≡ false
  other_key q other = elim (is_key k q) as (λ b. is_key k q ≡ b → b ≡ false) [
    | true ↦ λ t. absurd (other (ap hash_slot (sym (is_key-same k q t)) ∙ sym slot))
    | false ↦ λ t. refl
  ] refl

  pub placed_changed : ArePlaced (slice_set maps i n)
  placed_changed j q apart = elim (eqb_tells j i) [
    | inl there ↦ ap (λ h. found_at (slice_set maps i n) h q) there.1 ∙ found_there q
        ∙ ap (λ b. cond b w (found_at maps i q)) (other_key q (λ e. apart (there.1 ∙ sym e)))
        ∙ ap (λ h. found_at maps h q) (sym there.1) ∙ placed j q apart
    | inr elsewhere ↦ found_elsewhere j q elsewhere.1 ∙ placed j q apart
  ]

  get_at_changed : (q : List ℕ) → map.get (contents_of (slice_set maps i n)) q ≡ cond (is_key q k) w (map.get (contents_of maps) q)
  get_at_changed q =
      get_placed (slice_set maps i n) q placed_changed
      ∙ elim (eqb_tells (hash_slot q) i) as (λ _. found_at (slice_set maps i n) (hash_slot q) q ≡ cond (is_key k q) w (found_at maps (hash_slot q) q)) [
        | inl there ↦ ap (λ h. found_at (slice_set maps i n) h q) there.1 ∙ found_there q ∙ ap (λ h. cond (is_key k q) w (found_at maps h q)) (sym there.1)
        | inr elsewhere ↦ found_elsewhere (hash_slot q) q elsewhere.1 ∙ ap (λ b. cond b w (found_at maps (hash_slot q) q)) (sym (other_key q elsewhere.1))
      ]
      ∙ ap (λ b. cond b w (found_at maps (hash_slot q) q)) ((eq_by_cmp_equiv nat_list_cmp_total).symm k q)
      ∙ ap (cond (is_key q k) w) (sym (get_placed maps q placed))

  pub contents_changed : contents_of (slice_set maps i n) ≡ changed (contents_of maps) k w
  contents_changed = same_keyspace _ _ (λ q. get_at_changed q ∙ sym (get_changed (contents_of maps) k w q))

-- the map at an index is replaced by one with the same entries
module _ (maps : List (KeyMap Value)) (i : ℕ) (m n : KeyMap Value)
    (size : length maps ≡ 16384) (small : i < 16384) (at : m ≡ slice_index_or maps i m) (same : n.entries ≡ m.entries) where
  entries-kept : (j : ℕ) → entries_at (slice_set maps i n) j ≡ entries_at maps j
  entries-kept j = elim (eqb_tells j i) [
    | inl there ↦ ap (entries_at (slice_set maps i n)) there.1 ∙ entries-set maps i n (omega arith) ∙ same ∙ sym (entries-index maps i m (omega arith) at) ∙ ap (entries_at maps) (sym there.1)
    | inr elsewhere ↦ entries-set_other maps i j n elsewhere.1
  ]

  pub placed_kept : ArePlaced maps → ArePlaced (slice_set maps i n)
  placed_kept placed j q apart = ap (lookup (is_key q)) (entries-kept j) ∙ placed j q apart

  pub contents_kept : ArePlaced maps → contents_of (slice_set maps i n) ≡ contents_of maps
  contents_kept placed = same_keyspace _ _ (λ q.
      get_placed (slice_set maps i n) q (placed_kept placed) ∙ ap (lookup (is_key q)) (entries-kept (hash_slot q)) ∙ sym (get_placed maps q placed))

-- the length stays
pub length_changed : (maps : List (KeyMap Value)) (i : ℕ) (n : KeyMap Value) → length (slice_set maps i n) ≡ length maps
length_changed maps i n = simp length-set
