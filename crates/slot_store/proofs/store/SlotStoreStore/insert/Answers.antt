use Rattle.std.proofs.Common.{ap, subst, sym, ◌≡◌, ◌∙◌, true≢false, OnOk, OnErr}
use Rattle.std.proofs.lemmas.Cmp.{nat_list_cmp_total}
use Rattle.std.specs.FinMap as map
use Rattle.std.specs.List.{slice_set}
use Rattle.std.specs.Prelude.{Some, IfOk, is_some}
use Rattle.key_slot.specs.Slot.{hash_slot}
use Rattle.keyspace.proofs.InPlace.{err_leads, ok_leads}
use Rattle.keyspace.proofs.Maps.{seen_insert}
use Rattle.keyspace.proofs.Parted.{ok_unless}
use Rattle.keyspace.specs.Keyspace.{keyspace_of}
use Rattle.slot_store.proofs.Changed.{length_changed, placed_changed}
use Rattle.slot_store.proofs.Placed.{contents_of, get_at}
use Rattle.slot_store.proofs.Touched.{updates, contents_ok, contents_err}
use Rattle.slot_store.proofs.store.SlotStoreStore.insert.Goals as goal

pub invariant_of-self : goal.invariant_of-self
invariant_of-self c =
    let maps = c.self.inside.maps.items in
    let slot = c.index.ensures.same ∙ c.slot-slot.ensures.value ∙ ap hash_slot c.as_slice.ensures in (
      length_changed maps _ _ ∙ c.self.invariant.0,
      placed_changed maps c.index.result c.index_mut.result.now c.insert.new.self c.args.key _ c.self.invariant.0 c.self.invariant.1 c.index.ensures.below c.index_mut.ensures.value slot
          (updates maps c.index.result c.index_mut.result.now c.insert.new.self c.args.key (λ v. Some c.args.value) c.insert.result c.self.invariant.0 c.self.invariant.1 c.index.ensures.below c.index_mut.ensures.value slot
          (ok_leads c.insert.result (seen_insert nat_list_cmp_total (map.slice_cmp-IsAntisymmetric map.nat_cmp-IsAntisymmetric) _ _ _ _) c.insert.ensures.updates)
          (err_leads c.insert.result (ap keyspace_of) c.insert.ensures.err)),
    )

pub returns-clause-old : goal.returns-clause-old
returns-clause-old c =
    let slot = c.index.ensures.same ∙ c.slot-slot.ensures.value ∙ ap hash_slot c.as_slice.ensures in
    let found = get_at c.self.inside.maps.items c.index.result c.index_mut.result.now c.args.key c.self.invariant.0 c.self.invariant.1 c.index.ensures.below c.index_mut.ensures.value slot in
    subst (λ found. IfOk c.insert.result (λ old. old ≡ found)) (found ∙ ap (λ m. map.get m c.args.key) c.self.view_is) c.insert.ensures.old

pub returns-clause-ok : goal.returns-clause-ok
returns-clause-ok c =
    let maps = c.self.inside.maps.items in
    let slot = c.index.ensures.same ∙ c.slot-slot.ensures.value ∙ ap hash_slot c.as_slice.ensures in
    subst (λ old. OnOk c.insert.result (contents_of (slice_set maps c.index.result c.insert.new.self) ≡ map.insert old c.args.key c.args.value)) c.self.view_is
    (contents_ok maps c.index.result c.index_mut.result.now c.insert.new.self c.args.key (λ v. Some c.args.value) c.insert.result c.self.invariant.0 c.self.invariant.1 c.index.ensures.below c.index_mut.ensures.value slot
    (ok_leads c.insert.result (seen_insert nat_list_cmp_total (map.slice_cmp-IsAntisymmetric map.nat_cmp-IsAntisymmetric) _ _ _ _) c.insert.ensures.updates)
    (err_leads c.insert.result (ap keyspace_of) c.insert.ensures.err))

pub returns-clause-err : goal.returns-clause-err
returns-clause-err c =
    let maps = c.self.inside.maps.items in
    let slot = c.index.ensures.same ∙ c.slot-slot.ensures.value ∙ ap hash_slot c.as_slice.ensures in
    subst (λ old. OnErr c.insert.result (contents_of (slice_set maps c.index.result c.insert.new.self) ≡ old)) c.self.view_is
    (contents_err maps c.index.result c.index_mut.result.now c.insert.new.self c.args.key (λ v. Some c.args.value) c.insert.result c.self.invariant.0 c.self.invariant.1 c.index.ensures.below c.index_mut.ensures.value slot
    (ok_leads c.insert.result (seen_insert nat_list_cmp_total (map.slice_cmp-IsAntisymmetric map.nat_cmp-IsAntisymmetric) _ _ _ _) c.insert.ensures.updates)
    (err_leads c.insert.result (ap keyspace_of) c.insert.ensures.err))

-- a key that the map refuses isn't there
pub returns-clause-over : goal.returns-clause-over
returns-clause-over c = λ there.
    let slot = c.index.ensures.same ∙ c.slot-slot.ensures.value ∙ ap hash_slot c.as_slice.ensures in
    let found = get_at c.self.inside.maps.items c.index.result c.index_mut.result.now c.args.key c.self.invariant.0 c.self.invariant.1 c.index.ensures.below c.index_mut.ensures.value slot in
    ok_unless c.insert.result (λ absent. absurd (true≢false (sym there ∙ ap (λ m. is_some (map.get m c.args.key)) (sym c.self.view_is) ∙ ap is_some (sym found ∙ absent)))) c.insert.ensures.absent
