use Rattle.std.proofs.Common.{◌≡◌, ◌++◌}
use Rattle.std.specs.List.{flat_map}
use Rattle.key_map.specs.KeyMap.{keys}
use Rattle.slot_store.proofs.KeyEntries.{found_in}
use Rattle.slot_store.proofs.part.TreeStorePart.push_pairs.Given as goal

-- the pairs so far, and what is left
abbrev pub invariant-loop-key : goal.invariant-loop-key
invariant-loop-key l = l.pairs.items ++ flat_map (found_in l.self.entries) l.key-iterator ≡ l.initial.pairs.items ++ flat_map (found_in l.self.entries) (keys l.self)
