-- What comes of a request (Redis command reference, "ASKING", "CLUSTER SETSLOT", "MIGRATE"; CLUSTER NUMBERED and numbers of moves are ours).
use Rattle.std.specs.Prelude.{ℕ, ◌^◌, pos, nat_lt, Bool, false, true, List, Option, Some, None, Result, Ok, Err}
use Rattle.std.specs.Str.{bytes_eq}
use Rattle.std.specs.List.{position}
use Rattle.resp_values.specs.declared.reply.Reply.TheVariants.{Integer}
use Rattle.command_table.specs.ErrorLine.{line_of}
use Rattle.command_table.specs.declared.command.Command.{Command}
use Rattle.command_table.specs.declared.command.Command.TheVariants.{Data, Cluster}
use Rattle.command_table.specs.declared.command.ClusterCommand.{ClusterCommand}
use Rattle.command_table.specs.declared.command.ClusterCommand.TheVariants as cluster
use Rattle.command_table.specs.declared.command.SlotOrder.{SlotOrder}
use Rattle.command_table.specs.declared.command.SlotOrder.TheVariants.{Importing, Migrating, Node}
use Rattle.command_table.specs.declared.fault.CommandFault.{CommandFault}
use Rattle.key_slot.specs.Slot.{hash_slot}
use Rattle.slot_table.specs.Runs.{runs_of}
use Rattle.slot_table.specs.Table.{owner_at}
use Rattle.slot_state.specs.declared.ending.NodeVerdict.{NodeVerdict}
use Rattle.slot_state.specs.declared.ending.NodeVerdict.TheVariants as ending
use Rattle.cluster_config.specs.declared.config.NodeConfig.{NodeConfig}
use Rattle.redirect.specs.declared.asked.Asking.{Asking}
use Rattle.redirect.specs.declared.asked.Asking.TheVariants.{No, Any, Of}
use Rattle.node_step.specs.Commands.{command_outcome, decision_on}
use Rattle.connections.specs.Connections.{connection_at, with_change}
use Rattle.migrate.specs.declared.sending.CopyVerdict.{CopyVerdict}
use Rattle.migrate.specs.declared.sending.CopyVerdict.TheVariants as copies
use Rattle.node_step.specs.Copies.{copy_verdict_on, migration, node_at}
use Rattle.node_step.specs.Handovers.{failover}
use Rattle.node_step.specs.Orders.{done, ending_outcome, ending_verdict, importing, migrating, new_epoch}
use Rattle.node_step.specs.Outcome.{Outcome, error, replied}
use Rattle.node_step.specs.Reports.{count_reply, id_of, keys_reply, slots_reply, state_reply}
use Rattle.node_step.specs.State.{NodeState, own_master}
use Rattle.connections.specs.declared.conn.Conn.{Conn}
use Rattle.connections.specs.declared.conn.Connection.{Connection}
use Rattle.node_step.specs.declared.response.Why.TheVariants.{NotACommand, Reported, Told}

-- ---- the connection

-- what the connection's last request allows this one, and whether its ASK lines name the move
abbrev pub asking_of : Option Connection → Asking
asking_of None = No
asking_of (Some connection) = connection.asking

abbrev pub is_numbered : Option Connection → Bool
is_numbered None = false
is_numbered (Some connection) = connection.numbered

-- the connection is changed at the node
abbrev pub at_connection : NodeState → Conn → (Connection → Connection) → NodeState
at_connection node conn change = record node { connections = with_change node.connections conn change }

-- an asking holds for one request, whatever that is
-- (else: a client asks node 1 for a, which came, and later sends it GET b on the same connection;
-- node 1 answers with null, while b is still at node 0)
abbrev pub using_up : NodeState → Conn → NodeState
using_up node conn = at_connection node conn (λ connection. record connection { asking = No })

-- ASKING, with the number of a move or without one
abbrev pub asking_for : Option ℕ → Asking
asking_for None = Any
asking_for (Some number) = Of number

abbrev pub with_asking : NodeState → Conn → Option ℕ → NodeState
with_asking node conn number = at_connection node conn (λ connection. record connection { asking = asking_for number })

-- CLUSTER NUMBERED
abbrev pub with_numbers : NodeState → Conn → NodeState
with_numbers node conn = at_connection node conn (λ connection. record connection { numbered = true })

-- ---- commands about the cluster

-- the node with that id
abbrev pub node_with_id : NodeState → List ℕ → Option ℕ
node_with_id node id = position (λ (other : NodeConfig). bytes_eq other.id id) node.config.nodes

-- a row an order
abbrev pub order_outcome : NodeState → ℕ → SlotOrder → Option ℕ → Option ℕ → Outcome
order_outcome node slot Importing other number = importing node slot other number
order_outcome node slot Migrating other number = migrating node slot other number
order_outcome node slot Node other number = ending_outcome node slot (ending_verdict node slot other number)

-- a row a command
abbrev pub cluster_outcome : NodeState → Conn → ClusterCommand → Outcome
cluster_outcome node conn (cluster.KeySlot key) = replied node Reported (Integer (pos (hash_slot key)))
cluster_outcome node conn cluster.MyId = replied node Reported (id_of node.config node.number)
cluster_outcome node conn cluster.Slots = replied node Reported (slots_reply node.config (runs_of (owner_at node.table)))
cluster_outcome node conn (cluster.CountKeysInSlot slot) = replied node Reported (count_reply node slot)
cluster_outcome node conn (cluster.GetKeysInSlot slot count) = replied node Reported (keys_reply node slot count)
cluster_outcome node conn (cluster.SlotState slot) = replied node Reported (state_reply node slot)
cluster_outcome node conn (cluster.SetSlot slot order id number) = order_outcome node slot order (node_with_id node id) number
cluster_outcome node conn cluster.Numbered = replied (with_numbers node conn) Told done
cluster_outcome node conn cluster.Failover = failover node (own_master node)
cluster_outcome node conn (cluster.Asking number) = replied (with_asking node conn number) Told done
cluster_outcome node conn (cluster.Migrate host port keys timeout) = migration node conn host port keys timeout

-- ---- numbers that only grow

-- there is a next number of a copy
abbrev pub has_copy_number : CopyVerdict → Bool
has_copy_number copies.Exhausted = false
has_copy_number copies.CrossSlot = true
has_copy_number copies.WrongTarget = true
has_copy_number copies.NoKey = true
has_copy_number copies.CopyOutstanding = true
has_copy_number (copies.SendAgain to number copy) = true
has_copy_number (copies.Copies to number copy) = true

-- and an epoch for a slot that came
abbrev pub has_epoch : NodeState → ℕ → NodeVerdict → Bool
has_epoch node slot (ending.Ends drained) = nat_lt (new_epoch node slot drained) (2 ^ 64)
has_epoch node slot ending.UnknownNode = true
has_epoch node slot ending.OldMove = true
has_epoch node slot ending.NotDrained = true
has_epoch node slot ending.IsOwner = true
has_epoch node slot ending.NotYetOwner = true

abbrev pub has_order_number : NodeState → ℕ → SlotOrder → Option ℕ → Option ℕ → Bool
has_order_number node slot Importing other number = true
has_order_number node slot Migrating other number = true
has_order_number node slot Node other number = has_epoch node slot (ending_verdict node slot other number)

-- the command finds the number that it needs, if it needs one
abbrev pub has_number : NodeState → Result Command CommandFault → Bool
has_number node (Ok (Cluster (cluster.Migrate host port keys timeout))) = has_copy_number (copy_verdict_on node keys (node_at node host port))
has_number node (Ok (Cluster (cluster.SetSlot slot order id number))) = has_order_number node slot order (node_with_id node id) number
has_number node command = true

-- ---- by the words

abbrev pub by_command : NodeState → Conn → Option Connection → Result Command CommandFault → Outcome
by_command node conn connection (Err fault) = replied node (NotACommand fault) (error (line_of fault))
by_command node conn connection (Ok (Cluster command)) = cluster_outcome node conn command
by_command node conn connection (Ok (Data command)) =
    command_outcome node (is_numbered connection) command (decision_on node command (asking_of connection))

abbrev pub request_outcome : NodeState → Conn → Result Command CommandFault → Outcome
request_outcome node conn command = by_command (using_up node conn) conn (connection_at node.connections conn) command
