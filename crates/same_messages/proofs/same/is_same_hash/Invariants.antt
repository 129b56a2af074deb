use Rattle.std.proofs.Common.{◌≡◌, ◌++◌}
use Rattle.hash.specs.Pairs.{Pairs}
use Rattle.same_messages.proofs.same.is_same_hash.Given as goal

-- the pairs so far are the same
abbrev pub invariant-loop-field : goal.invariant-loop-field
invariant-loop-field l = (front : Pairs) × (l.one ≡ front ++ l.field-iterator) × (l.other ≡ front ++ l.theirs)
