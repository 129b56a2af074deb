use Rattle.std.proofs.Common.{◌≡◌, is_some, map, take}
use Rattle.std.specs.FinMap as fin_map
use Rattle.key_rows.proofs.decisions.are_in.Given as goal

-- the keys so far were looked up
abbrev pub invariant-loop-key : goal.invariant-loop-key
invariant-loop-key g l = l.there.items ≡ map (λ key. is_some (fin_map.get (g.S.Store.contents l.store) key.now)) (take l.key-index l.keys)
