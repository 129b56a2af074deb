-- What a node does with a slot (Redis Cluster specification, "Cluster live reconfiguration").
use Rattle.std.specs.Prelude.{ℕ, ◌==◌, if◌then◌else◌, Option, Some, None}
use Rattle.std.specs.Borrow.{Bor}
use Rattle.slot_state.specs.declared.running.Move.{Move}
use Rattle.slot_state.specs.declared.state.SlotState.{SlotState}
use Rattle.slot_state.specs.declared.state.SlotState.TheVariants.{Owned, Foreign, Moving}

-- by the owner of the slot in the table, the move that is under way, and this node
abbrev pub state_of : Option ℕ → Option Move → ℕ → SlotState Move
state_of owner (Some move) node = Moving move
state_of (Some owner) None node = if owner == node then Owned else Foreign
state_of None None node = Foreign

-- the state behind a reference to the move
abbrev pub seen : SlotState (Bor Move) → SlotState Move
seen Owned = Owned
seen Foreign = Foreign
seen (Moving move) = Moving move.now
