-- The map of a slot is emptied.
use Rattle.std.proofs.Common.{◌≡◌, ℕ, List, [], length, ◌<◌, true, false, not, cond, refl, sym, ap, ◌∙◌, arith}
use Rattle.std.specs.Cmp.Lexicographic.{slice_cmp}
use Rattle.std.specs.FinMap as map
use Rattle.std.specs.List.{slice_set}
use Rattle.std.specs.Ordering.{nat_cmp}
use Rattle.std.specs.Prelude.{Bool, None}
use Rattle.key_map.specs.KeyMap.{KeyMap}
use Rattle.keyspace.proofs.Applied.{same as same_keyspace}
use Rattle.keyspace.proofs.Parts.{get_part, get_left, part_again, parts_make_the_keyspace}
use Rattle.keyspace.specs.Keyspace.{Keyspace, keyspace_of}
use Rattle.keyspace.specs.Parts.{part, rest}
use Rattle.keyspace.specs.declared.value.Value.{Value}
use Rattle.slot_store.specs.InSlot.{in_slot, is_in_slot, outside_slot, LiesInSlot}
use Rattle.slot_store.specs.Maps.{ArePlaced}
use Rattle.slot_store.proofs.Placed.{contents_of}
use Rattle.slot_store.proofs.SlotCommit.{placed_set, inside_set, outside_set}

-- a part of no keys has none
part_of_nothing : (takes : List ℕ → Bool) → part takes map.empty ≡ map.empty
part_of_nothing takes = same_keyspace _ _ (λ q.
    get_part takes map.empty q
    ∙ elim (takes q) as (λ b. cond b (map.get (keyspace_of []) q) None ≡ map.get (keyspace_of []) q) [ true ↦ refl | false ↦ sym (map.get-empty (slice_cmp nat_cmp) q) ])

-- the rest has nothing of the part
part_of_rest : (takes : List ℕ → Bool) (m : Keyspace) → part takes (rest takes m) ≡ map.empty
part_of_rest takes m = same_keyspace _ _ (λ q.
    get_part takes (rest takes m) q
    ∙ elim (takes q) as (λ b. takes q ≡ b → cond b (map.get (rest takes m) q) None ≡ None) [
      | true ↦ λ taken. get_left (λ key. not (takes key)) m q (ap not taken)
      | false ↦ λ left. refl
    ] refl
    ∙ sym (map.get-empty (slice_cmp nat_cmp) q))

module _ (maps : List (KeyMap Value)) (i slot : ℕ) (n : KeyMap Value) (old : Keyspace)
    (size : length maps ≡ 16384) (placed : ArePlaced maps) (small : i < 16384) (is_slot : i ≡ slot) (view : contents_of maps ≡ old) (empty : n.entries ≡ []) where
  nothing : keyspace_of n.entries ≡ map.empty
  nothing = ap map.from_entries empty

  stays : LiesInSlot i (keyspace_of n.entries)
  stays = ap (in_slot i) nothing ∙ part_of_nothing (is_in_slot i) ∙ sym nothing

  below : i < length maps
  below = omega (arith, small, size)

  pub placed_cleared : ArePlaced (slice_set maps i n)
  placed_cleared = placed_set maps i n placed below stays

  -- what was outside the slot is left
  pub contents_cleared : contents_of (slice_set maps i n) ≡ outside_slot slot old
  contents_cleared =
      parts_make_the_keyspace (is_in_slot i) (contents_of (slice_set maps i n)) (outside_slot i (contents_of maps))
      (inside_set maps i n placed below stays ∙ nothing ∙ sym (part_of_rest (is_in_slot i) (contents_of maps)))
      (outside_set maps i n placed below stays ∙ sym (part_again (λ key. not (is_in_slot i key)) (contents_of maps)))
      ∙ ap (λ s. outside_slot s (contents_of maps)) is_slot ∙ ap (outside_slot slot) view
