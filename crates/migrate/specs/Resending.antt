-- What is sent again of a move until it is answered (ours).
use Rattle.std.specs.Prelude.{ℕ, List, Option, Some, None}
use Rattle.slot_state.specs.declared.running.Move.{Move}
use Rattle.slot_state.specs.declared.running.Move.TheVariants.{Leaves, Comes}
use Rattle.migrate.specs.declared.resending.Resend.{Resend}
use Rattle.migrate.specs.declared.resending.Resend.TheVariants.{Copy, Drained}

-- what is sent: a copy with its number and keys, or the word that the slot is drained, each to a node and under the number of the move
pub data Sent : Type 0 where
  CopySent : ℕ → ℕ → ℕ → List (List ℕ) → Sent
  DrainedSent : ℕ → ℕ → Sent

-- of a slot that leaves the copy that is outstanding, or else that the slot is drained; nothing of a slot that comes
abbrev pub resent : Move → Option Sent
resent (Leaves to number copies (Some keys)) = Some (CopySent to number copies keys)
resent (Leaves to number copies None) = Some (DrainedSent to number)
resent (Comes from number last drained) = None

-- what is sent, with the keys behind their reference
abbrev pub shown : Resend → Sent
shown (Copy to number copy keys) = CopySent to number copy keys.now
shown (Drained to number) = DrainedSent to number
