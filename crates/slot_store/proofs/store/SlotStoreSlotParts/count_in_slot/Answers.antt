use Rattle.std.proofs.Common.{ap, ◌∙◌}
use Rattle.std.specs.FinMap as map
use Rattle.slot_store.specs.InSlot.{in_slot}
use Rattle.slot_store.proofs.Placed.{contents_of}
use Rattle.slot_store.proofs.SlotEntries.{len_in_slot}
use Rattle.slot_store.proofs.store.SlotStoreSlotParts.count_in_slot.Goals as goal

pub returns-clause-count : goal.returns-clause-count
returns-clause-count c =
    c.len.ensures.len
    ∙ len_in_slot c.self.inside.maps.items _ _ c.self.invariant.0 c.self.invariant.1 c.index.ensures.below c.index-2.ensures c.len.ensures.ordered
    ∙ ap (λ i. map.len (in_slot i (contents_of c.self.inside.maps.items))) c.index.ensures.same ∙ ap (λ m. map.len (in_slot c.args.slot m)) c.self.view_is
