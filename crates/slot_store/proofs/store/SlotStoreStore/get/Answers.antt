use Rattle.std.proofs.Common.{ap, ◌∙◌}
use Rattle.std.specs.FinMap as map
use Rattle.key_slot.specs.Slot.{hash_slot}
use Rattle.slot_store.proofs.Placed.{get_at}
use Rattle.slot_store.proofs.store.SlotStoreStore.get.Goals as goal

pub returns : goal.returns
returns c =
    c.get.ensures.value
    ∙ get_at c.self.inside.maps.items _ _ _ c.self.invariant.0 c.self.invariant.1 c.index.ensures.below c.index-2.ensures (c.index.ensures.same ∙ c.slot.ensures.value ∙ ap hash_slot c.as_slice.ensures)
    ∙ ap (λ m. map.get m c.args.key.now) c.self.view_is
