use Rattle.std.proofs.Common.{◌∙◌}
use Rattle.slot_store.proofs.Changed.{length_changed}
use Rattle.slot_store.proofs.Cleared.{placed_cleared, contents_cleared}
use Rattle.slot_store.proofs.store.SlotStoreSlotParts.clear_slot.Goals as goal

pub invariant_of-self : goal.invariant_of-self
invariant_of-self c = (
  length_changed c.self.inside.maps.items _ _ ∙ c.self.invariant.0,
  placed_cleared c.self.inside.maps.items c.index.result c.args.slot _ c.args.self.now
      c.self.invariant.0 c.self.invariant.1 c.index.ensures.below c.index.ensures.same c.self.view_is c.clear.ensures.empty,
)

pub returns : goal.returns
returns c = contents_cleared c.self.inside.maps.items c.index.result c.args.slot _ c.args.self.now
    c.self.invariant.0 c.self.invariant.1 c.index.ensures.below c.index.ensures.same c.self.view_is c.clear.ensures.empty
