use Rattle.std.proofs.Common.{◌≡◌, take}
use Rattle.std.specs.FinMap as map
use Rattle.step_making.proofs.ClearedSlots.{is_outside}
use Rattle.step_making.proofs.clearing.clear_slots.Given as goal

-- the slots so far are cleared
abbrev pub invariant-loop-slot : goal.invariant-loop-slot
invariant-loop-slot g l =
    let contents = g.S.Store.contents in
    contents l.store ≡ map.retain_keys (contents l.initial.store) (is_outside (take l.slot-index l.slots))
