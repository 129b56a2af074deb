use Rattle.std.proofs.Common.{ℕ, ◌<◌, All}
use Rattle.audit.specs.Merge.{IsSound, journal_of}
use Rattle.audit.proofs.sound.are_sound.Given as goal

-- the journals so far are sound
abbrev pub invariant-loop-node : goal.invariant-loop-node
invariant-loop-node l = (n : ℕ) → n < l.node → All (IsSound l.journals) (journal_of l.journals n)
