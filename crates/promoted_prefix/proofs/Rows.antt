-- What each row of a step leaves of the stream and the keyspace, beside what it writes.
use Rattle.std.proofs.Common.{◌≡◌, ◌==◌, ℕ, Bool, true, false, cond, List, [], Option, Some, None, refl}
use Rattle.std.specs.Prelude.{Result, Ok, Err}
use Rattle.command_table.specs.Table.{command_of}
use Rattle.command_table.specs.declared.command.ClusterCommand.{ClusterCommand}
use Rattle.command_table.specs.declared.command.ClusterCommand.TheVariants as cluster
use Rattle.command_table.specs.declared.command.Command.{Command}
use Rattle.command_table.specs.declared.command.Command.TheVariants.{Data, Cluster}
use Rattle.command_table.specs.declared.command.DataCommand.{DataCommand}
use Rattle.command_table.specs.declared.command.SlotOrder.{SlotOrder}
use Rattle.command_table.specs.declared.command.SlotOrder.TheVariants.{Importing, Migrating, Node}
use Rattle.command_table.specs.declared.fault.CommandFault.{CommandFault}
use Rattle.connections.specs.declared.conn.Conn.{Conn}
use Rattle.connections.specs.declared.conn.Connection.{Connection}
use Rattle.key_slot.specs.Slot.{hash_slot}
use Rattle.keyspace.specs.Commands.{replay_from}
use Rattle.keyspace.specs.declared.value.Value.{Value}
use Rattle.migrate.specs.Acknowledging.{acknowledged_keys}
use Rattle.migrate.specs.Arriving.{arrival_verdict}
use Rattle.migrate.specs.declared.arriving.ArrivalVerdict.{ArrivalVerdict}
use Rattle.migrate.specs.declared.arriving.ArrivalVerdict.TheVariants.{Installs, Repeats, Ignored}
use Rattle.migrate.specs.declared.sending.CopyVerdict.{CopyVerdict}
use Rattle.migrate.specs.declared.sending.CopyVerdict.TheVariants as copies
use Rattle.redirect.specs.declared.decision.Decision.{Decision}
use Rattle.redirect.specs.declared.decision.Decision.TheVariants.{Serve, ServeImport, CrossSlot, Down, TryAgain, Ask, Moved}
use Rattle.slot_state.specs.Moves.{move_of}
use Rattle.slot_state.specs.declared.ending.NodeVerdict.{NodeVerdict}
use Rattle.slot_state.specs.declared.ending.NodeVerdict.TheVariants as ending
use Rattle.slot_state.specs.declared.copy_id.CopyId.{CopyId}
use Rattle.slot_table.specs.Claims.{merged}
use Rattle.slot_table.specs.declared.runs.Run.{Run}
use Rattle.node_step.specs.Claiming.{claim, claimed_by, is_lost}
use Rattle.node_step.specs.Commands.{command_outcome, decision_on}
use Rattle.node_step.specs.Copies.{acknowledged, acknowledgement, arrival, arrived, copy_outcome, copy_verdict_on, first_slot, keep_limits, node_at, those_there}
use Rattle.node_step.specs.Orders.{ending_outcome, ending_verdict}
use Rattle.node_step.specs.Outcome.{Outcome, silent}
use Rattle.node_step.specs.Requests.{asking_of, by_command, cluster_outcome, is_numbered, node_with_id, order_outcome}
use Rattle.node_step.specs.Handovers.{failover}
use Rattle.node_step.specs.State.{NodeState, is_replica, own_master}
use Rattle.node_step.specs.Streams.{Requests, written_by_ack, written_by_claim, written_by_copy, written_by_loss, written_by_request}
use Rattle.promoted_prefix.proofs.Deletions.{all_deleted, copied_are, taken_out}
use Rattle.promoted_prefix.proofs.Growing.{HaveRequests}
use Rattle.promoted_prefix.proofs.Writes.{executed_is_written}

-- a row leaves the stream as it is, and the keyspace that these requests leave
pub record Leaves (before : NodeState) (requests : Requests) (outcome : Outcome) : Type 0 where
  pub number : outcome.state.number ≡ before.number
  pub role : is_replica outcome.state ≡ is_replica before
  pub stream : outcome.state.stream ≡ before.stream
  pub keyspace : outcome.state.keyspace ≡ (replay_from before.keyspace requests).last

-- nothing of that
pub plain : (before : NodeState) (outcome : Outcome) → outcome.state.number ≡ before.number → is_replica outcome.state ≡ is_replica before → outcome.state.stream ≡ before.stream → outcome.state.keyspace ≡ before.keyspace
    → Leaves before [] outcome
plain before outcome number role stream keyspace = record { number = number; role = role; stream = stream; keyspace = keyspace }

-- ---- requests

module _ (words : List (List ℕ)) (node : NodeState) where
  abbrev Answers : Result Command CommandFault → Outcome → Type 0
  Answers command outcome = Leaves node (written_by_request words command outcome.response) outcome

  still : Leaves node [] (silent node)
  still = record { number = refl; role = refl; stream = refl; keyspace = refl }

  command_does : (numbered : Bool) (which : DataCommand) → command_of words ≡ Ok (Data which) → (why : Decision) → Answers (Ok (Data which)) (command_outcome node numbered which why)
  command_does numbered which reads Serve = record { number = refl; role = refl; stream = refl; keyspace = executed_is_written node.keyspace words which reads }
  command_does numbered which reads (ServeImport number) = record { number = refl; role = refl; stream = refl; keyspace = executed_is_written node.keyspace words which reads }
  command_does numbered which reads CrossSlot = record { number = refl; role = refl; stream = refl; keyspace = refl }
  command_does numbered which reads Down = record { number = refl; role = refl; stream = refl; keyspace = refl }
  command_does numbered which reads (TryAgain reason) = record { number = refl; role = refl; stream = refl; keyspace = refl }
  command_does numbered which reads (Ask slot to number) = record { number = refl; role = refl; stream = refl; keyspace = refl }
  command_does numbered which reads (Moved slot to) = record { number = refl; role = refl; stream = refl; keyspace = refl }

  ending_does : (command : Result Command CommandFault) (slot : ℕ) (verdict : NodeVerdict) → Answers command (ending_outcome node slot verdict)
  ending_does command slot (ending.Ends drained) = record { number = refl; role = refl; stream = refl; keyspace = refl }
  ending_does command slot ending.UnknownNode = record { number = refl; role = refl; stream = refl; keyspace = refl }
  ending_does command slot ending.OldMove = record { number = refl; role = refl; stream = refl; keyspace = refl }
  ending_does command slot ending.NotDrained = record { number = refl; role = refl; stream = refl; keyspace = refl }
  ending_does command slot ending.IsOwner = record { number = refl; role = refl; stream = refl; keyspace = refl }
  ending_does command slot ending.NotYetOwner = record { number = refl; role = refl; stream = refl; keyspace = refl }

  order_does : (command : Result Command CommandFault) (slot : ℕ) (order : SlotOrder) (other number : Option ℕ) → Answers command (order_outcome node slot order other number)
  order_does command slot Importing other number = record { number = refl; role = refl; stream = refl; keyspace = refl }
  order_does command slot Migrating other number = record { number = refl; role = refl; stream = refl; keyspace = refl }
  order_does command slot Node other number = ending_does command slot (ending_verdict node slot other number)

  copy_does : (command : Result Command CommandFault) (conn : Conn) (slot : ℕ) (keys : List (List ℕ)) (ticks : ℕ) (verdict : CopyVerdict) → Answers command (copy_outcome node conn slot keys ticks verdict)
  copy_does command conn slot keys ticks copies.CrossSlot = record { number = refl; role = refl; stream = refl; keyspace = refl }
  copy_does command conn slot keys ticks copies.WrongTarget = record { number = refl; role = refl; stream = refl; keyspace = refl }
  copy_does command conn slot keys ticks copies.NoKey = record { number = refl; role = refl; stream = refl; keyspace = refl }
  copy_does command conn slot keys ticks copies.CopyOutstanding = record { number = refl; role = refl; stream = refl; keyspace = refl }
  copy_does command conn slot keys ticks copies.Exhausted = record { number = refl; role = refl; stream = refl; keyspace = refl }
  copy_does command conn slot keys ticks (copies.SendAgain to number copy) = record { number = refl; role = refl; stream = refl; keyspace = refl }
  copy_does command conn slot keys ticks (copies.Copies to number copy) = record { number = refl; role = refl; stream = refl; keyspace = refl }

  failover_does : (command : Result Command CommandFault) (master : Option ℕ) → Answers command (failover node master)
  failover_does command None = record { number = refl; role = refl; stream = refl; keyspace = refl }
  failover_does command (Some master) = record { number = refl; role = refl; stream = refl; keyspace = refl }

  cluster_does : (command : Result Command CommandFault) (conn : Conn) (which : ClusterCommand) → Answers command (cluster_outcome node conn which)
  cluster_does command conn (cluster.KeySlot key) = record { number = refl; role = refl; stream = refl; keyspace = refl }
  cluster_does command conn cluster.MyId = record { number = refl; role = refl; stream = refl; keyspace = refl }
  cluster_does command conn cluster.Slots = record { number = refl; role = refl; stream = refl; keyspace = refl }
  cluster_does command conn (cluster.CountKeysInSlot slot) = record { number = refl; role = refl; stream = refl; keyspace = refl }
  cluster_does command conn (cluster.GetKeysInSlot slot count) = record { number = refl; role = refl; stream = refl; keyspace = refl }
  cluster_does command conn (cluster.SlotState slot) = record { number = refl; role = refl; stream = refl; keyspace = refl }
  cluster_does command conn (cluster.SetSlot slot order id number) = order_does command slot order (node_with_id node id) number
  cluster_does command conn cluster.Numbered = record { number = refl; role = refl; stream = refl; keyspace = refl }
  cluster_does command conn cluster.Failover = failover_does command (own_master node)
  cluster_does command conn (cluster.Asking number) = record { number = refl; role = refl; stream = refl; keyspace = refl }
  cluster_does command conn (cluster.Migrate host port keys timeout) = copy_does command conn (first_slot keys) (those_there node.keyspace keys) timeout (copy_verdict_on node keys (node_at node host port))

  pub request_leaves : (conn : Conn) (connection : Option Connection) (command : Result Command CommandFault) → command_of words ≡ command → Answers command (by_command node conn connection command)
  request_leaves conn connection (Err fault) reads = record { number = refl; role = refl; stream = refl; keyspace = refl }
  request_leaves conn connection (Ok (Cluster which)) reads = cluster_does (Ok (Cluster which)) conn which
  request_leaves conn connection (Ok (Data which)) reads = command_does (is_numbered connection) which reads (decision_on node which (asking_of connection))

-- ---- messages

module _ (node : NodeState) where
  arrived_does : (from : ℕ) (id : CopyId) (pairs : List (List ℕ × Value)) → HaveRequests pairs → (verdict : ArrivalVerdict)
      → Leaves node (written_by_copy node.keyspace pairs verdict) (arrived node from id pairs verdict)
  arrived_does from id pairs have Installs = record { number = refl; role = refl; stream = refl; keyspace = copied_are node.keyspace pairs have }
  arrived_does from id pairs have Repeats = record { number = refl; role = refl; stream = refl; keyspace = refl }
  arrived_does from id pairs have Ignored = record { number = refl; role = refl; stream = refl; keyspace = refl }

  pub arrival_leaves : (from : ℕ) (id : CopyId) (pairs : List (List ℕ × Value)) → HaveRequests pairs
      → Leaves node (written_by_copy node.keyspace pairs (arrival_verdict (move_of node.moves id.slot) from id.number id.copy (keep_limits pairs))) (arrival node from id pairs)
  arrival_leaves from id pairs have = arrived_does from id pairs have (arrival_verdict (move_of node.moves id.slot) from id.number id.copy (keep_limits pairs))

  acknowledged_does : (id : CopyId) (keys : Option (List (List ℕ))) → Leaves node (written_by_ack keys) (acknowledged node id keys)
  acknowledged_does id None = record { number = refl; role = refl; stream = refl; keyspace = refl }
  acknowledged_does id (Some keys) = record { number = refl; role = refl; stream = refl; keyspace = taken_out node.keyspace keys }

  pub acknowledgement_leaves : (from : ℕ) (id : CopyId) → Leaves node (written_by_ack (acknowledged_keys (move_of node.moves id.slot) from id.number id.copy)) (acknowledgement node from id)
  acknowledgement_leaves from id = acknowledged_does id (acknowledged_keys (move_of node.moves id.slot) from id.number id.copy)

  pub claim_leaves : (from : ℕ) (runs : List (Run ℕ)) → Leaves node (written_by_claim node from runs) (claim node from runs)
  claim_leaves from runs = by_sender (from == node.number)
    where
      by_sender : (own : Bool) → Leaves node (cond own [] (written_by_loss node (merged node.table runs from))) (cond own (silent node) (claimed_by node (merged node.table runs from)))
      by_sender true = record { number = refl; role = refl; stream = refl; keyspace = refl }
      by_sender false = record { number = refl; role = refl; stream = refl; keyspace = all_deleted node.keyspace (λ key. is_lost node (merged node.table runs from) (hash_slot key)) }
