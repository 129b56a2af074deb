use Rattle.std.proofs.Common.{take}
use Rattle.hash.specs.Packed.{RemoveOnly}
use Rattle.hash.proofs.packed.remove_only.Given as goal

-- none so far sets a field
abbrev pub invariant-loop-value : goal.invariant-loop-value
invariant-loop-value l = RemoveOnly (take l.value-index l.changes)
