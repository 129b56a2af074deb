use Rattle.std.proofs.Common.{ap, ◌∙◌}
use Rattle.slot_store.specs.InSlot.{outside_slot}
use Rattle.step_making.proofs.ClearedSlots.{cleared-none, cleared-more}
use Rattle.step_making.proofs.clearing.clear_slots.Goals as goal

pub loop-slot-init : goal.loop-slot-init
loop-slot-init g c = cleared-none (g.S.Store.contents c.args.store.now)

pub loop-slot-preserved : goal.loop-slot-preserved
loop-slot-preserved g c =
    c.clear_slot.ensures ∙ ap (outside_slot c.slot-item.result) c.loop-slot.invariant
    ∙ cleared-more (g.S.Store.contents c.args.store.now) c.args.slots.now c.loop-slot.slot-index c.slot-item.result c.loop-slot-test.true c.slot-item.is
