use Rattle.std.proofs.Common.{ap, ◌∙◌}
use Rattle.slot_store.specs.InSlot.{in_slot}
use Rattle.slot_store.proofs.Placed.{contents_of}
use Rattle.slot_store.proofs.SlotCommit.{part_is}
use Rattle.slot_store.proofs.store.SlotStoreSlotParts.part.Goals as goal

pub returns : goal.returns
returns c =
    part_is c.self.inside.maps.items c.index.result c.index-2.result.now c.self.invariant.0 c.self.invariant.1 c.index.ensures.below c.index-2.ensures
    ∙ ap (λ i. in_slot i (contents_of c.self.inside.maps.items)) c.index.ensures.same ∙ ap (in_slot c.args.slot) c.self.view_is
