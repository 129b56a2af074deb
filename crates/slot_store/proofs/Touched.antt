-- The value of one key is changed in the map of its slot.
use Rattle.std.proofs.Common.{◌≡◌, ℕ, List, cond, sym, ap, ◌∙◌}
use Rattle.std.proofs.lemmas.Cmp.{nat_list_cmp_total, eq_by_cmp_equiv}
use Rattle.std.specs.FinMap as map
use Rattle.std.specs.List.{slice_index_or, slice_set}
use Rattle.std.specs.Map.{lookup}
use Rattle.std.specs.Prelude.{◌<◌, length, Option, Result, Ok, Err, OnOk, OnErr}
use Rattle.key_map.specs.KeyMap.{KeyMap}
use Rattle.key_slot.specs.Slot.{hash_slot}
use Rattle.keyspace.proofs.Applied.{is_key, get_changed}
use Rattle.keyspace.proofs.InPlace.{changed_same, get_changed_itself}
use Rattle.keyspace.proofs.Maps.{get_seen}
use Rattle.keyspace.specs.Keyspace.{changed, keyspace_of}
use Rattle.keyspace.specs.declared.value.Value.{Value}
use Rattle.slot_store.specs.Maps.{ArePlaced}
use Rattle.slot_store.proofs.Changed.{contents_changed}
use Rattle.slot_store.proofs.Placed.{contents_of, get_at}

module _ {T E : Type 0} (maps : List (KeyMap Value)) (i : ℕ) (m n : KeyMap Value) (k : List ℕ) (left : Option Value → Option Value) (result : Result T E)
    (size : length maps ≡ 16384) (placed : ArePlaced maps) (small : i < 16384) (at : m ≡ slice_index_or maps i m) (slot : i ≡ hash_slot k)
    (ok : OnOk result (keyspace_of n.entries ≡ changed (keyspace_of m.entries) k (left (map.get (keyspace_of m.entries) k)))) (err : OnErr result (keyspace_of n.entries ≡ keyspace_of m.entries)) where
  abbrev pub after : Option Value
  after = map.get (keyspace_of n.entries) k

  only_there : (r : Result T E) → OnOk r (keyspace_of n.entries ≡ changed (keyspace_of m.entries) k (left (map.get (keyspace_of m.entries) k))) → OnErr r (keyspace_of n.entries ≡ keyspace_of m.entries) → keyspace_of n.entries ≡ changed (keyspace_of m.entries) k after
  only_there (Ok done) is other = is ∙ ap (changed (keyspace_of m.entries) k) (sym (ap (λ x. map.get x k) is ∙ get_changed_itself _ k _))
  only_there (Err refused) other is = is ∙ sym (changed_same (keyspace_of m.entries) k) ∙ ap (λ x. changed (keyspace_of m.entries) k (map.get x k)) (sym is)

  -- at other keys the map has what it had
  pub updates : (q : List ℕ) → lookup (is_key q) n.entries ≡ cond (is_key k q) after (lookup (is_key q) m.entries)
  updates q =
      sym (get_seen nat_list_cmp_total n.entries q) ∙ ap (λ x. map.get x q) (only_there result ok err) ∙ get_changed (keyspace_of m.entries) k after q
      ∙ ap (cond (is_key q k) after) (get_seen nat_list_cmp_total m.entries q)
      ∙ ap (λ b. cond b after (lookup (is_key q) m.entries)) ((eq_by_cmp_equiv nat_list_cmp_total).symm q k)

  -- before it had what the store has
  before : map.get (keyspace_of m.entries) k ≡ map.get (contents_of maps) k
  before = get_seen nat_list_cmp_total m.entries k ∙ get_at maps i m k size placed small at slot

  contents : contents_of (slice_set maps i n) ≡ changed (contents_of maps) k after
  contents = contents_changed maps i m n k after size placed small at slot updates

  value_changed : (r : Result T E) → OnOk r (keyspace_of n.entries ≡ changed (keyspace_of m.entries) k (left (map.get (keyspace_of m.entries) k))) → OnOk r (contents_of (slice_set maps i n) ≡ changed (contents_of maps) k (left (map.get (contents_of maps) k)))
  value_changed (Ok done) is = contents ∙ ap (changed (contents_of maps) k) (ap (λ x. map.get x k) is ∙ get_changed_itself _ k _ ∙ ap left before)
  value_changed (Err refused) other = tt

  nothing_changed : (r : Result T E) → OnErr r (keyspace_of n.entries ≡ keyspace_of m.entries) → OnErr r (contents_of (slice_set maps i n) ≡ contents_of maps)
  nothing_changed (Ok done) other = tt
  nothing_changed (Err refused) is = contents ∙ ap (changed (contents_of maps) k) (ap (λ x. map.get x k) is ∙ before) ∙ changed_same (contents_of maps) k

  pub contents_ok : OnOk result (contents_of (slice_set maps i n) ≡ changed (contents_of maps) k (left (map.get (contents_of maps) k)))
  contents_ok = value_changed result ok

  pub contents_err : OnErr result (contents_of (slice_set maps i n) ≡ contents_of maps)
  contents_err = nothing_changed result err
