use Rattle.std.proofs.Common.{◌≡◌, ◌++◌, take}
use Rattle.key_map.specs.KeyMap.{keys}
use Rattle.slot_store.proofs.store.first_keys.Given as goal

-- the keys so far and those that are left
abbrev pub invariant-loop-key : goal.invariant-loop-key
invariant-loop-key l = l.found.items ++ take l.key-iterator.n l.key-iterator.iter ≡ take l.fn.count (keys l.fn.map)
