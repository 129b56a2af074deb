use Rattle.std.proofs.Common.{◌≡◌, length}
use Rattle.same_messages.proofs.Prefixes.{AreSameBelow}
use Rattle.same_messages.proofs.same.are_same_runs.Given as goal

-- the runs so far are the same
abbrev pub invariant-loop-place : goal.invariant-loop-place
invariant-loop-place l = AreSameBelow l.place l.one l.other × (length l.one ≡ length l.other)
