use Rattle.std.proofs.Common.{ℕ, ◌<◌}
use Rattle.std.specs.Prelude.{slice_index_or}
use Rattle.cell_parts.specs.declared.entry.Entry.{Entry as JournalEntry}
use Rattle.audit.specs.Merge.{IsSound}
use Rattle.audit.proofs.sound.is_sound_in.Given as goal

-- the entries so far are sound
abbrev pub invariant-loop-place : goal.invariant-loop-place
invariant-loop-place l = (i : ℕ) (other : JournalEntry) → i < l.place → IsSound l.journals (slice_index_or l.entries i other)
