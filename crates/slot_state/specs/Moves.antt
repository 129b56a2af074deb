-- Moves of slots at a node (Redis Cluster specification, "Cluster live reconfiguration"; that they have numbers is ours).
use Rattle.std.specs.Prelude.{ℕ, List, Option, unwrap_or}
use Rattle.std.specs.FinMap as map
use Rattle.std.specs.Ordering.{nat_cmp}
use Rattle.slot_state.specs.declared.copy_id.CopyId.{CopyId}
use Rattle.slot_state.specs.declared.running.Move.{Move}

-- by their slots the moves that the node takes part in, and the greatest number of a move that it took part in
pub record Moves : Type 0 where
  pub running : map.FinMap nat_cmp Move
  pub last : map.FinMap nat_cmp ℕ

-- a map from slots, of its entries
abbrev pub by_slot : {V : Type 0} → List (ℕ × V) → map.FinMap nat_cmp V
by_slot entries = map.from_entries entries

-- before the first move
abbrev pub no_moves : Moves
no_moves = record { running = map.empty; last = map.empty }

-- the move of a slot that is under way
abbrev pub move_of : Moves → ℕ → Option Move
move_of moves slot = map.get moves.running slot

-- the greatest number of a move of the slot, 0 before the first
abbrev pub last_move_of : Moves → ℕ → ℕ
last_move_of moves slot = unwrap_or (map.get moves.last slot) 0

-- a move of the slot begins under that number
abbrev pub begun : Moves → ℕ → ℕ → Move → Moves
begun moves slot number move = record {
  running = map.insert moves.running slot move;
  last = map.insert moves.last slot number;
}

-- the move of the slot ends, and its number stays
abbrev pub ended : Moves → ℕ → Moves
ended moves slot = record moves { running = map.remove moves.running slot }

-- the move of the slot is another one now, and its number stays
abbrev pub changed : Moves → ℕ → Move → Moves
changed moves slot move = record moves { running = map.insert moves.running slot move }

-- which copy of keys that is
abbrev pub copy_id : ℕ → ℕ → ℕ → CopyId
copy_id slot number copy = record { slot = slot; number = number; copy = copy }

-- the moves that are under way, by rising slot
abbrev pub running_moves : Moves → List (ℕ × Move)
running_moves moves = map.entries moves.running
