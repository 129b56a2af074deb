use Rattle.std.proofs.Common.{◌≡◌, ◌++◌}
use Rattle.key_map.specs.KeyMap.{keys}
use Rattle.slot_store.proofs.part.TreeStorePart.push_keys.Given as goal

-- the keys so far, and those that are left
abbrev pub invariant-loop-key : goal.invariant-loop-key
invariant-loop-key l = l.keys.items ++ l.key-iterator ≡ l.initial.keys.items ++ keys l.self
