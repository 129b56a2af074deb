use Rattle.std.proofs.Common.{ap, subst, ◌≡◌, ◌∙◌, OnOk, OnErr}
use Rattle.std.specs.List.{slice_set}
use Rattle.key_slot.specs.Slot.{hash_slot}
use Rattle.keyspace.specs.Keyspace.{fields_left, with_fields}
use Rattle.slot_store.proofs.Changed.{length_changed, placed_changed}
use Rattle.slot_store.proofs.Touched.{updates, contents_ok, contents_err}
use Rattle.slot_store.proofs.Placed.{contents_of}
use Rattle.slot_store.proofs.store.SlotStoreStore.change_fields.Goals as goal

pub invariant_of-self : goal.invariant_of-self
invariant_of-self c =
    let maps = c.self.inside.maps.items in
    let slot = c.index.ensures.same ∙ c.slot-slot.ensures.value ∙ ap hash_slot c.as_slice.ensures in (
      length_changed maps _ _ ∙ c.self.invariant.0,
      placed_changed maps c.index.result c.index_mut.result.now c.change_fields_in.new.entries c.args.key _ c.self.invariant.0 c.self.invariant.1 c.index.ensures.below c.index_mut.ensures.value slot
          (updates maps c.index.result c.index_mut.result.now c.change_fields_in.new.entries c.args.key (λ v. fields_left v c.args.changes.items) c.change_fields_in.result c.self.invariant.0 c.self.invariant.1 c.index.ensures.below c.index_mut.ensures.value slot
          c.change_fields_in.ensures.ok c.change_fields_in.ensures.err),
    )

pub returns-clause-ok : goal.returns-clause-ok
returns-clause-ok c =
    let maps = c.self.inside.maps.items in
    let slot = c.index.ensures.same ∙ c.slot-slot.ensures.value ∙ ap hash_slot c.as_slice.ensures in
    subst (λ old. OnOk c.change_fields_in.result (contents_of (slice_set maps c.index.result c.change_fields_in.new.entries) ≡ with_fields old c.args.key c.args.changes.items)) c.self.view_is
    (contents_ok maps c.index.result c.index_mut.result.now c.change_fields_in.new.entries c.args.key (λ v. fields_left v c.args.changes.items) c.change_fields_in.result c.self.invariant.0 c.self.invariant.1 c.index.ensures.below c.index_mut.ensures.value slot
    c.change_fields_in.ensures.ok c.change_fields_in.ensures.err)

pub returns-clause-err : goal.returns-clause-err
returns-clause-err c =
    let maps = c.self.inside.maps.items in
    let slot = c.index.ensures.same ∙ c.slot-slot.ensures.value ∙ ap hash_slot c.as_slice.ensures in
    subst (λ old. OnErr c.change_fields_in.result (contents_of (slice_set maps c.index.result c.change_fields_in.new.entries) ≡ old)) c.self.view_is
    (contents_err maps c.index.result c.index_mut.result.now c.change_fields_in.new.entries c.args.key (λ v. fields_left v c.args.changes.items) c.change_fields_in.result c.self.invariant.0 c.self.invariant.1 c.index.ensures.below c.index_mut.ensures.value slot
    c.change_fields_in.ensures.ok c.change_fields_in.ensures.err)
