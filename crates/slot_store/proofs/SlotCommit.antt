-- A plan is committed on the map of a slot.
use Rattle.std.proofs.Common.{◌≡◌, ◌≢◌, ℕ, List, length, ◌<◌, arith, inl, inr, false, not, cond, nat_eq, sym, ap, ◌∙◌, OnOk, OnErr}
use Rattle.std.proofs.lemmas.Bool.Decides.{eqb_tells}
use Rattle.std.proofs.lemmas.Cmp.{nat_list_cmp_total}
use Rattle.std.specs.FinMap as map
use Rattle.std.specs.List.{slice_index_or, slice_set}
use Rattle.std.specs.Map.{lookup}
use Rattle.std.specs.Prelude.{Result, Ok, Err, None}
use Rattle.key_map.specs.KeyMap.{KeyMap}
use Rattle.key_slot.specs.Slot.{hash_slot}
use Rattle.keyspace.proofs.Applied.{is_key}
use Rattle.keyspace.proofs.Applied.{same as same_keyspace}
use Rattle.keyspace.proofs.Maps.{get_seen}
use Rattle.keyspace.proofs.Parts.{get_part, part_again, parts_make_the_keyspace}
use Rattle.keyspace.specs.Keyspace.{Keyspace, keyspace_of}
use Rattle.keyspace.specs.Plan.{committed}
use Rattle.keyspace.specs.declared.plans.Plan.{Plan}
use Rattle.keyspace.specs.declared.value.Value.{Value}
use Rattle.slot_store.specs.InSlot.{in_slot, is_in_slot, outside_slot, IsCommittedInSlot, LiesInSlot}
use Rattle.slot_store.specs.Maps.{found_at, ArePlaced}
use Rattle.slot_store.proofs.Changed.{entries-set, entries-set_other}
use Rattle.slot_store.proofs.Placed.{contents_of, get_placed}
use Rattle.slot_store.proofs.SlotEntries.{get_in_slot}

-- the map of a slot is what the store has in the slot
pub part_is : (maps : List (KeyMap Value)) (i : ℕ) (m : KeyMap Value) → length maps ≡ 16384 → ArePlaced maps → i < 16384 → m ≡ slice_index_or maps i m → keyspace_of m.entries ≡ in_slot i (contents_of maps)
part_is maps i m size placed small at = same_keyspace _ _ (λ q. get_seen nat_list_cmp_total m.entries q ∙ sym (get_in_slot maps i m size placed small at q))

-- the map of a slot is replaced by one that has no keys of other slots
module _ (maps : List (KeyMap Value)) (i : ℕ) (n : KeyMap Value)
    (placed : ArePlaced maps) (below : i < length maps) (stays : LiesInSlot i (keyspace_of n.entries)) where
  found_there : (q : List ℕ) → found_at (slice_set maps i n) i q ≡ map.get (keyspace_of n.entries) q
  found_there q = ap (lookup (is_key q)) (entries-set maps i n below) ∙ sym (get_seen nat_list_cmp_total n.entries q)

  found_elsewhere : (j : ℕ) (q : List ℕ) → j ≢ i → found_at (slice_set maps i n) j q ≡ found_at maps j q
  found_elsewhere j q other = ap (lookup (is_key q)) (entries-set_other maps i j n other)

  -- the new map has nothing at the key of another slot
  nothing_there : (q : List ℕ) → nat_eq (hash_slot q) i ≡ false → map.get (keyspace_of n.entries) q ≡ None
  nothing_there q other = ap (λ k. map.get k q) (sym stays) ∙ get_part (is_in_slot i) (keyspace_of n.entries) q ∙ ap (λ b. cond b (map.get (keyspace_of n.entries) q) None) other

  pub placed_set : ArePlaced (slice_set maps i n)
  placed_set j q apart = elim (eqb_tells j i) [
    | inl there ↦ ap (λ h. found_at (slice_set maps i n) h q) there.1 ∙ found_there q
        ∙ elim (eqb_tells (hash_slot q) i) [
          | inl same ↦ absurd (apart (there.1 ∙ sym same.1))
          | inr other ↦ nothing_there q other.0
        ]
    | inr elsewhere ↦ found_elsewhere j q elsewhere.1 ∙ placed j q apart
  ]

  pub inside_set : in_slot i (contents_of (slice_set maps i n)) ≡ keyspace_of n.entries
  inside_set = same_keyspace _ _ (λ q.
      get_part (is_in_slot i) (contents_of (slice_set maps i n)) q
      ∙ elim (eqb_tells (hash_slot q) i) as (λ _. cond (nat_eq (hash_slot q) i) (map.get (contents_of (slice_set maps i n)) q) None ≡ map.get (keyspace_of n.entries) q) [
        | inl there ↦ ap (λ b. cond b (map.get (contents_of (slice_set maps i n)) q) None) there.0 ∙ get_placed (slice_set maps i n) q placed_set
            ∙ ap (λ h. found_at (slice_set maps i n) h q) there.1 ∙ found_there q
        | inr other ↦ ap (λ b. cond b (map.get (contents_of (slice_set maps i n)) q) None) other.0 ∙ sym (nothing_there q other.0)
      ])

  pub outside_set : outside_slot i (contents_of (slice_set maps i n)) ≡ outside_slot i (contents_of maps)
  outside_set = same_keyspace _ _ (λ q.
      get_part (λ key. not (is_in_slot i key)) (contents_of (slice_set maps i n)) q
      ∙ elim (eqb_tells (hash_slot q) i) as (λ _. cond (not (nat_eq (hash_slot q) i)) (map.get (contents_of (slice_set maps i n)) q) None ≡ cond (not (nat_eq (hash_slot q) i)) (map.get (contents_of maps) q) None) [
        | inl there ↦ ap (λ b. cond (not b) (map.get (contents_of (slice_set maps i n)) q) None) there.0 ∙ sym (ap (λ b. cond (not b) (map.get (contents_of maps) q) None) there.0)
        | inr other ↦ ap (λ v. cond (not (nat_eq (hash_slot q) i)) v None) (get_placed (slice_set maps i n) q placed_set ∙ found_elsewhere (hash_slot q) q other.1 ∙ sym (get_placed maps q placed))
      ]
      ∙ sym (get_part (λ key. not (is_in_slot i key)) (contents_of maps) q))

-- the plan is committed on the map, or refused
module _ {T E : Type 0} (maps : List (KeyMap Value)) (i slot : ℕ) (m n : KeyMap Value) (plan : Plan) (old : Keyspace) (result : Result T E)
    (size : length maps ≡ 16384) (placed : ArePlaced maps) (small : i < 16384) (at : m ≡ slice_index_or maps i m) (is_slot : i ≡ slot) (view : contents_of maps ≡ old)
    (lies : LiesInSlot slot (committed (in_slot slot old) plan))
    (ok : OnOk result (keyspace_of n.entries ≡ committed (keyspace_of m.entries) plan)) (err : OnErr result (keyspace_of n.entries ≡ keyspace_of m.entries)) where
  before : keyspace_of m.entries ≡ in_slot slot old
  before = part_is maps i m size placed small at ∙ ap (λ s. in_slot s (contents_of maps)) is_slot ∙ ap (in_slot slot) view

  below : i < length maps
  below = omega (arith, small, size)

  lies_after : (r : Result T E) → OnOk r (keyspace_of n.entries ≡ committed (keyspace_of m.entries) plan) → OnErr r (keyspace_of n.entries ≡ keyspace_of m.entries) → LiesInSlot slot (keyspace_of n.entries)
  lies_after (Ok done) is _ = let made = is ∙ ap (λ k. committed k plan) before in ap (in_slot slot) made ∙ lies ∙ sym made
  lies_after (Err refused) _ is = let kept = is ∙ before in ap (in_slot slot) kept ∙ part_again (is_in_slot slot) old ∙ sym kept

  stays : LiesInSlot i (keyspace_of n.entries)
  stays = ap (λ s. in_slot s (keyspace_of n.entries)) is_slot ∙ lies_after result ok err

  pub placed_committed : ArePlaced (slice_set maps i n)
  placed_committed = placed_set maps i n placed below stays

  inside : in_slot slot (contents_of (slice_set maps i n)) ≡ keyspace_of n.entries
  inside = ap (λ s. in_slot s (contents_of (slice_set maps i n))) (sym is_slot) ∙ inside_set maps i n placed below stays

  outside : outside_slot slot (contents_of (slice_set maps i n)) ≡ outside_slot slot old
  outside =
      ap (λ s. outside_slot s (contents_of (slice_set maps i n))) (sym is_slot) ∙ outside_set maps i n placed below stays
      ∙ ap (λ s. outside_slot s (contents_of maps)) is_slot ∙ ap (outside_slot slot) view

  on_ok : (r : Result T E) → OnOk r (keyspace_of n.entries ≡ committed (keyspace_of m.entries) plan) → OnOk r (IsCommittedInSlot slot plan old (contents_of (slice_set maps i n)))
  on_ok (Ok done) is = record { inside = inside ∙ is ∙ ap (λ k. committed k plan) before; outside = outside }
  on_ok (Err refused) _ = tt

  on_err : (r : Result T E) → OnErr r (keyspace_of n.entries ≡ keyspace_of m.entries) → OnErr r (contents_of (slice_set maps i n) ≡ old)
  on_err (Ok done) _ = tt
  on_err (Err refused) is = parts_make_the_keyspace (is_in_slot slot) _ _ (inside ∙ is ∙ before) outside

  pub committed_ok : OnOk result (IsCommittedInSlot slot plan old (contents_of (slice_set maps i n)))
  committed_ok = on_ok result ok

  pub committed_err : OnErr result (contents_of (slice_set maps i n) ≡ old)
  committed_err = on_err result err
