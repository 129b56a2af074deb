use Rattle.std.proofs.Common.{◌≡◌, ◌++◌}
use Rattle.hash.specs.Packed.{each_set}
use Rattle.hash.proofs.unpacking.settings.Given as goal

-- the changes so far, and those for the pairs that are left
abbrev pub invariant-loop-field : goal.invariant-loop-field
invariant-loop-field l = l.changes.items ++ each_set l.field-iterator ≡ each_set l.packed
