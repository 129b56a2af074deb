use Rattle.std.proofs.Common.{◌≡◌, take, ap, subst, ◌∙◌, IfOk}
use Rattle.std.specs.FinMap as map
use Rattle.slot_store.specs.InSlot.{in_slot}
use Rattle.slot_store.proofs.Placed.{contents_of}
use Rattle.slot_store.proofs.SlotEntries.{keys_in_slot}
use Rattle.slot_store.proofs.store.SlotStoreSlotParts.keys_in_slot.Goals as goal

pub returns : goal.returns
returns c =
    let same =
    keys_in_slot c.self.inside.maps.items _ _ c.self.invariant.0 c.self.invariant.1 c.index.ensures.below c.index-2.ensures c.first_keys.ensures.ordered
    ∙ ap (λ i. map.keys (in_slot i (contents_of c.self.inside.maps.items))) c.index.ensures.same ∙ ap (λ m. map.keys (in_slot c.args.slot m)) c.self.view_is in
    subst (λ keys. IfOk c.first_keys.result (λ found. found.items ≡ take c.args.count keys)) same c.first_keys.ensures.found
