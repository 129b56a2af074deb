use Rattle.std.proofs.Common.{ℕ, ◌<◌, ◌≢◌}
use Rattle.std.specs.Prelude.{slice_index_or}
use Rattle.bus.specs.declared.message.Message.{Message as Sent}
use Rattle.audit.proofs.sound.is_among.Given as goal

-- none so far is the message
abbrev pub invariant-loop-place : goal.invariant-loop-place
invariant-loop-place l = (i : ℕ) (other : Sent) → i < l.place → slice_index_or l.sent i other ≢ l.message
