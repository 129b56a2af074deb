-- The state of a node (Redis Cluster specification, "Redis Cluster nodes attributes", "Cluster live reconfiguration",
-- "Cluster current epoch", "Failure detection", "Replica election and promotion").
use Rattle.std.specs.Prelude.{ℕ, Bool, false, List, [], Option, Some, None, is_some, map, slice_index_or, if◌then◌else◌}
use Rattle.std.specs.List.{list_any}
use Rattle.std.specs.FinMap as fin_map
use Rattle.keyspace.specs.Keyspace.{Keyspace}
use Rattle.slot_table.specs.declared.entry.SlotEntry.{SlotEntry}
use Rattle.slot_table.specs.Table.{first_table, owner_at}
use Rattle.slot_state.specs.Moves.{Moves, no_moves}
use Rattle.slot_state.specs.declared.order.Standing.{Standing}
use Rattle.cluster_config.specs.Config.{ClusterConfig, first_owners}
use Rattle.cluster_config.specs.declared.config.NodeConfig.{NodeConfig}
use Rattle.cluster_config.specs.declared.config.Role.{Role}
use Rattle.cluster_config.specs.declared.config.Role.TheVariants.{Master, Replica}
use Rattle.election.specs.Health.{Candidate, Health, Voter, first_health, first_voter, no_candidate}
use Rattle.bus.specs.Stream.{StreamView, first_stream}
use Rattle.bus.specs.declared.bodies.Handing.{Handing}
use Rattle.bus.specs.declared.bodies.Replaced.{Replaced}
use Rattle.bus.specs.declared.stream_id.StreamId.{StreamId}
use Rattle.connections.specs.Connections.{ConnectionTable}

-- ---- the node

-- a replica's part in a planned handover: whether it asks its master for one, what the master said that it hands over, and how many
-- ticks ago the last election for that began
pub record Handover : Type 0 where
  pub asked : Bool
  pub note : Option Handing
  pub begun : Option ℕ

abbrev pub no_handover : Handover
no_handover = record { asked = false; note = None; begun = None }

-- what a node knows and holds: the cluster's configuration and its own number there; its keys; who owns each slot, the moves
-- of slots that it takes part in, and the newest epoch; for each node the master that it is a replica of, if it is one; what
-- it heard of the others, its votes and its own election; the replica that it hands its slots over to, if it does, and what it knows of
-- its own master's handover; its stream; whose place it took, if it was promoted; its clients
pub record NodeState : Type 0 where
  pub config : ClusterConfig
  pub number : ℕ
  pub keyspace : Keyspace
  pub table : List (Option SlotEntry)
  pub moves : Moves
  pub current_epoch : ℕ
  pub masters : List (Option ℕ)
  pub health : Health
  pub voter : Voter
  pub candidate : Candidate
  pub paused : Option ℕ
  pub handover : Handover
  pub stream : StreamView
  pub replaced : Option Replaced
  pub connections : ConnectionTable

-- the node's own master, if it is a replica
abbrev pub own_master : NodeState → Option ℕ
own_master node = slice_index_or node.masters node.number None

abbrev pub is_replica : NodeState → Bool
is_replica node = is_some (own_master node)

-- what the node knows of itself and of a slot, where an order is to move it
abbrev pub standing : NodeState → ℕ → Standing
standing node slot = record { node = node.number; is_replica = is_replica node; is_paused = is_some node.paused; owner = owner_at node.table slot }

-- ---- the start

-- the master that a node copies, if it is a replica
abbrev pub master_in : Role → Option ℕ
master_in (Master slots) = None
master_in (Replica of) = Some of

abbrev pub first_masters : List NodeConfig → List (Option ℕ)
first_masters nodes = map (λ (node : NodeConfig). master_in node.role) nodes

-- how many of the last bytes of a stream each node keeps: none where no replica asks for them
abbrev pub kept_in : ClusterConfig → ℕ
kept_in config = if list_any (λ (node : NodeConfig). is_some (master_in node.role)) config.nodes then config.backlog else 0

-- the stream of a master is its own, that of a replica its master's
abbrev pub first_id : Option ℕ → ℕ → StreamId
first_id None number = record { node = number; epoch = 0 }
first_id (Some master) number = record { node = master; epoch = 0 }

-- the state in which the node of that number begins
abbrev pub first_state : ClusterConfig → ℕ → NodeState
first_state config number = record {
  config = config;
  number = number;
  keyspace = fin_map.empty;
  table = first_table (first_owners config);
  moves = no_moves;
  current_epoch = 1;
  masters = first_masters config.nodes;
  health = first_health;
  voter = first_voter;
  candidate = no_candidate;
  paused = None;
  handover = no_handover;
  stream = first_stream (first_id (slice_index_or (first_masters config.nodes) number None) number);
  replaced = None;
  connections = record { slots = []; opens = [] };
}
