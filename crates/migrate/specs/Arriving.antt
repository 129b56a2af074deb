-- Copies that arrive (ours).
use Rattle.std.specs.Prelude.{ℕ, ◌+◌, ◌==◌, ◌&&◌, nat_le, Bool, if◌then◌else◌, Option, Some, None}
use Rattle.std.specs.FinMap as map
use Rattle.slot_state.specs.Moves.{Moves, move_of}
use Rattle.slot_state.specs.declared.running.Move.{Move}
use Rattle.slot_state.specs.declared.running.Move.TheVariants.{Leaves, Comes}
use Rattle.migrate.specs.declared.arriving.ArrivalVerdict.{ArrivalVerdict}
use Rattle.migrate.specs.declared.arriving.ArrivalVerdict.TheVariants.{Ignored, Installs, Repeats}

-- a copy is installed once
-- (else: node 1 installs b = 1 by copy 1 and serves SET b 2; copy 1 arrives once more, and b is 1 again)
abbrev pub by_number : ℕ → ℕ → ArrivalVerdict
by_number last copy = if copy == last + 1 then Installs else if nat_le copy last then Repeats else Ignored

-- a copy counts while the slot comes from its sender under its number of the move, and its key and value keep the limits
-- (a number is its move's alone, or this goes wrong: copy 1 of move 1, b = 1, is late until move 3 from node 0 to node 1;
-- node 1 installs it, takes copy 1 of move 3, b = 2, for a repetition, and node 0 deletes b = 2)
abbrev pub arrival_verdict : Option Move → ℕ → ℕ → ℕ → Bool → ArrivalVerdict
arrival_verdict (Some (Comes source number last drained)) from move copy fits = if source == from && number == move && fits then by_number last copy else Ignored
arrival_verdict (Some (Leaves to number copies frozen)) from move copy fits = Ignored
arrival_verdict None from move copy fits = Ignored

-- one more copy was installed
abbrev pub one_more : Move → Move
one_more (Comes from number last drained) = Comes from number (last + 1) drained
one_more (Leaves to number copies frozen) = Leaves to number copies frozen

abbrev pub changed_at : Moves → ℕ → (Move → Move) → Option Move → Moves
changed_at moves slot change None = moves
changed_at moves slot change (Some move) = record moves { running = map.insert moves.running slot (change move) }

abbrev pub after_arrival : Moves → ℕ → ArrivalVerdict → Moves
after_arrival moves slot Installs = changed_at moves slot one_more (move_of moves slot)
after_arrival moves slot Repeats = moves
after_arrival moves slot Ignored = moves

-- the copy with that number is the last one that was installed
abbrev pub with_last : ℕ → Move → Move
with_last copy (Comes from number last drained) = Comes from number copy drained
with_last copy (Leaves to number copies frozen) = Leaves to number copies frozen

abbrev pub counted : Moves → ℕ → ℕ → Moves
counted moves slot copy = changed_at moves slot (with_last copy) (move_of moves slot)
