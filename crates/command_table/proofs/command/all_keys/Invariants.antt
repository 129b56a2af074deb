use Rattle.std.proofs.Common.{◌≡◌, ℕ, List, take, map}
use Rattle.std.specs.Borrow.{Bor}
use Rattle.command_table.proofs.command.all_keys.Given as goal

-- the keys so far are lent
abbrev pub invariant-loop-key : goal.invariant-loop-key
invariant-loop-key l = map (λ (key : Bor (List ℕ)). key.now) l.slices.items ≡ take l.key-index l.keys
