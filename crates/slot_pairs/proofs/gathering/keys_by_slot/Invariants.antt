use Rattle.std.proofs.Common.{filter, take}
use Rattle.std.specs.FinMap as map
use Rattle.slot_pairs.specs.Several.{HaveSameKeys, is_in_one}
use Rattle.slot_pairs.proofs.gathering.keys_by_slot.Given as goal

-- the keys of the slots so far
abbrev pub invariant-loop-slot : goal.invariant-loop-slot
invariant-loop-slot g l = HaveSameKeys l.keys.items (filter (is_in_one (take l.slot-index l.slots)) (map.keys (g.S.Store.contents l.store)))
