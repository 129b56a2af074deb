use Rattle.std.proofs.Common.{take}
use Rattle.hash.specs.Foreseen.{Foresees}
use Rattle.hash.proofs.extent.extent_before_last.Given as goal

-- what is known of the hash after the changes so far
abbrev pub invariant-loop-field : goal.invariant-loop-field
invariant-loop-field l = Foresees l.hash l.left.entries (take l.field-index l.changes) l.extent.len l.extent.size
