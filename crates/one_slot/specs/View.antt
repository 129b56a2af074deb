-- One slot at one node (Redis Cluster specification, "Cluster live reconfiguration"; that moves have numbers is ours).
use Rattle.std.specs.Prelude.{ℕ, List, Option}
use Rattle.slot_table.specs.declared.entry.SlotEntry.{SlotEntry}
use Rattle.slot_state.specs.declared.running.Move.{Move}

-- what the node's table has of the slot, the move that is under way, the greatest number of a move that the node took part in,
-- and its values at the keys of the slot
pub record View (X : Type 0) : Type 0 where
  pub entry : Option SlotEntry
  pub move : Option Move
  pub last : ℕ
  pub value : List ℕ → Option X

-- the slot at each node, by its number
abbrev pub Views : Type 0 → Type 0
Views X = ℕ → View X
