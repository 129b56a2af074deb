use Rattle.std.proofs.Common.{filter}
use Rattle.std.specs.FinMap as map
use Rattle.std.specs.List.Sorted.{IsPermutation}
use Rattle.slot_pairs.proofs.GatheringLemmas.{is_below}
use Rattle.slot_pairs.proofs.gathering.pairs_by_slot.Given as goal

-- the pairs of the slots so far
abbrev pub invariant-loop-index : goal.invariant-loop-index
invariant-loop-index g l = IsPermutation l.pairs.items (filter (is_below l.index) (map.entries (g.S.Store.contents l.store)))
