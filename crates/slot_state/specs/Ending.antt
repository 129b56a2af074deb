-- CLUSTER SETSLOT slot NODE node (Redis Cluster specification, "Cluster live reconfiguration"; its conditions are ours).
use Rattle.std.specs.Prelude.{ℕ, ◌==◌, if◌then◌else◌, Option, Some, None}
use Rattle.slot_state.specs.Moves.{Moves, ended}
use Rattle.slot_state.specs.Numbers.{is_named}
use Rattle.slot_state.specs.declared.ending.NodeVerdict.{NodeVerdict}
use Rattle.slot_state.specs.declared.ending.NodeVerdict.TheVariants.{UnknownNode, OldMove, NotDrained, Ends, IsOwner, NotYetOwner}
use Rattle.slot_state.specs.declared.order.Standing.{Standing}
use Rattle.slot_state.specs.declared.running.Move.{Move}
use Rattle.slot_state.specs.declared.running.Move.TheVariants.{Leaves, Comes}

-- an import ends once the other node said that it has no key of the slot left
-- (else: node 1 owns the slot and answers GET b with null, while b is still at node 0)
abbrev pub by_drained : Option ℕ → NodeVerdict
by_drained None = NotDrained
by_drained (Some epoch) = Ends epoch

-- where no import is to end, the table has to name the node
abbrev pub by_owner : Option ℕ → ℕ → NodeVerdict
by_owner None node = NotYetOwner
by_owner (Some owner) node = if owner == node then IsOwner else NotYetOwner

-- where the order names this node itself
abbrev pub by_move : Standing → Option Move → Option ℕ → NodeVerdict
by_move at (Some (Comes from number copied drained)) asked = if is_named number asked then by_drained drained else OldMove
by_move at (Some (Leaves to number copies frozen)) asked = by_owner at.owner at.node
by_move at None asked = by_owner at.owner at.node

-- the verdict, by the move under way, and the node and number in the order
abbrev pub node_verdict : Standing → Option Move → Option ℕ → Option ℕ → NodeVerdict
node_verdict at move None asked = UnknownNode
node_verdict at move (Some node) asked = if node == at.node then by_move at move asked else by_owner at.owner node

-- the import is over once it ends; else nothing changes
abbrev pub after_node : Moves → ℕ → NodeVerdict → Moves
after_node moves slot (Ends epoch) = ended moves slot
after_node moves slot other = moves
