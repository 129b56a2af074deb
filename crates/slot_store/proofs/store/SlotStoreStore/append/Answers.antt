use Rattle.std.proofs.Common.{ap, subst, ◌≡◌, ◌∙◌, OnOk, OnErr}
use Rattle.std.specs.List.{slice_set}
use Rattle.std.specs.Prelude.{Some}
use Rattle.key_slot.specs.Slot.{hash_slot}
use Rattle.keyspace.specs.Keyspace.{appended, with_appended}
use Rattle.slot_store.proofs.Changed.{length_changed, placed_changed}
use Rattle.slot_store.proofs.Touched.{updates, contents_ok, contents_err}
use Rattle.slot_store.proofs.Placed.{contents_of}
use Rattle.slot_store.proofs.store.SlotStoreStore.append.Goals as goal

pub invariant_of-self : goal.invariant_of-self
invariant_of-self c =
    let maps = c.self.inside.maps.items in
    let slot = c.index.ensures.same ∙ c.slot-slot.ensures.value ∙ ap hash_slot c.as_slice.ensures in (
      length_changed maps _ _ ∙ c.self.invariant.0,
      placed_changed maps c.index.result c.index_mut.result.now c.append_in.new.entries c.args.key _ c.self.invariant.0 c.self.invariant.1 c.index.ensures.below c.index_mut.ensures.value slot
          (updates maps c.index.result c.index_mut.result.now c.append_in.new.entries c.args.key (λ v. Some (appended v c.args.bytes)) c.append_in.result c.self.invariant.0 c.self.invariant.1 c.index.ensures.below c.index_mut.ensures.value slot
          c.append_in.ensures.ok c.append_in.ensures.err),
    )

pub returns-clause-ok : goal.returns-clause-ok
returns-clause-ok c =
    let maps = c.self.inside.maps.items in
    let slot = c.index.ensures.same ∙ c.slot-slot.ensures.value ∙ ap hash_slot c.as_slice.ensures in
    subst (λ old. OnOk c.append_in.result (contents_of (slice_set maps c.index.result c.append_in.new.entries) ≡ with_appended old c.args.key c.args.bytes)) c.self.view_is
    (contents_ok maps c.index.result c.index_mut.result.now c.append_in.new.entries c.args.key (λ v. Some (appended v c.args.bytes)) c.append_in.result c.self.invariant.0 c.self.invariant.1 c.index.ensures.below c.index_mut.ensures.value slot
    c.append_in.ensures.ok c.append_in.ensures.err)

pub returns-clause-err : goal.returns-clause-err
returns-clause-err c =
    let maps = c.self.inside.maps.items in
    let slot = c.index.ensures.same ∙ c.slot-slot.ensures.value ∙ ap hash_slot c.as_slice.ensures in
    subst (λ old. OnErr c.append_in.result (contents_of (slice_set maps c.index.result c.append_in.new.entries) ≡ old)) c.self.view_is
    (contents_err maps c.index.result c.index_mut.result.now c.append_in.new.entries c.args.key (λ v. Some (appended v c.args.bytes)) c.append_in.result c.self.invariant.0 c.self.invariant.1 c.index.ensures.below c.index_mut.ensures.value slot
    c.append_in.ensures.ok c.append_in.ensures.err)
