use Rattle.std.proofs.Common.{ap, ◌∙◌}
use Rattle.std.specs.FinMap as map
use Rattle.std.specs.Prelude.{None}
use Rattle.key_slot.specs.Slot.{hash_slot}
use Rattle.slot_store.proofs.Changed.{length_changed, placed_changed, contents_changed}
use Rattle.slot_store.proofs.store.SlotStoreStore.remove.Goals as goal

pub invariant_of-self : goal.invariant_of-self
invariant_of-self c = (
  length_changed c.self.inside.maps.items _ _ ∙ c.self.invariant.0,
  placed_changed c.self.inside.maps.items _ c.index_mut.result.now _ c.args.key.now None c.self.invariant.0 c.self.invariant.1 c.index.ensures.below c.index_mut.ensures.value (c.index.ensures.same ∙ c.slot.ensures.value ∙ ap hash_slot c.as_slice.ensures) c.remove-old.ensures.updates,
)

pub returns : goal.returns
returns c =
    contents_changed c.self.inside.maps.items _ c.index_mut.result.now _ c.args.key.now None c.self.invariant.0 c.self.invariant.1 c.index.ensures.below c.index_mut.ensures.value (c.index.ensures.same ∙ c.slot.ensures.value ∙ ap hash_slot c.as_slice.ensures) c.remove-old.ensures.updates
    ∙ ap (λ m. map.remove m c.args.key.now) c.self.view_is
