-- Clients of a world (Redis Cluster specification, "Clients first connection and handling of redirections").
use Rattle.std.specs.Prelude.{◌<◌, ◌++◌, ◌≡◌, ◌≢◌, ◌==◌, ◌&&◌, ◌∷◌, not, ℕ, nat_le, Bool, true, false, List, [], length, replicate, filter, insert, Option, Some, None, Err, slice_get, slice_index_or, slice_set, if◌then◌else◌}
use Rattle.std.specs.List.{position_or_len}
use Rattle.std.specs.Str.{bytes_eq}
use Rattle.cluster_config.specs.Config.{ClusterConfig}
use Rattle.cluster_config.specs.declared.config.NodeConfig.{NodeConfig}
use Rattle.connections.specs.declared.conn.Conn.{Conn}
use Rattle.redirection.specs.Address.{Place}
use Rattle.smart_client.specs.State.{ClientState, first_client}
use Rattle.smart_client.specs.Step.{broken, ended}
use Rattle.smart_client.specs.declared.call.Call.{Call}
use Rattle.smart_client.specs.declared.call.Stage.TheVariants.{Connecting}
use Rattle.smart_client.specs.declared.fault.ClientFault.{ClientFault}
use Rattle.smart_client.specs.declared.fault.ClientFault.TheVariants.{NotConnected}
use Rattle.world_nodes.specs.declared.link.Link.{Link}
use Rattle.world_nodes.specs.declared.output.Output.{Output}
use Rattle.world_nodes.specs.declared.output.Output.TheVariants as output
use Rattle.world.specs.declared.client.Late.{Late}
use Rattle.world.specs.declared.client.Traffic.{Traffic}
use Rattle.world.specs.declared.client.Traffic.TheVariants.{Quiet, Asked, Answered}

-- a client: what it knows, the connection that it keeps to each node, what is under way between it and a node, and the requests on
-- its connections that were cut, the oldest first
pub record ClientView : Type 0 where
  pub number : ℕ
  pub core : ClientState
  pub pool : List (Option Conn)
  pub traffic : Traffic
  pub late : List Late

-- ---- the beginning

abbrev pub nowhere : Place
nowhere = record { host = []; port = 0 }

abbrev pub place_at : Option NodeConfig → Place
place_at None = nowhere
place_at (Some node) = record { host = node.host; port = node.port }

-- it begins at the node with the number 0
abbrev pub new_client : ClusterConfig → ℕ → ClientView
new_client config number = record {
  number = number;
  core = first_client (place_at (slice_get config.nodes 0)) 16;
  pool = replicate (length config.nodes) None;
  traffic = Quiet;
  late = [];
}

-- ---- clients by rising number

-- the place of the first client whose number isn't below
abbrev pub place_of : ℕ → List ClientView → ℕ
place_of number clients = position_or_len (λ (client : ClientView). nat_le number client.number) clients

abbrev pub if_numbered : ℕ → Option ClientView → Option ClientView
if_numbered number None = None
if_numbered number (Some client) = if client.number == number then Some client else None

-- the client with that number, if it began
abbrev pub client_at : ℕ → List ClientView → Option ClientView
client_at number clients = if_numbered number (slice_get clients (place_of number clients))

-- the place of the client of that number, which is among the first so many
abbrev pub IsPlaceFor : ℕ → List ClientView → ℕ → ℕ → Type 0
IsPlaceFor number clients count place = (place ≡ place_of number clients) × (place < count)

-- the client of that number is at the place
abbrev pub StandsAt : ℕ → List ClientView → ℕ → Type 0
StandsAt number clients place = client_at number clients ≡ slice_get clients place

-- a client that didn't begin yet begins
abbrev pub begun_at : ClusterConfig → ℕ → List ClientView → Option ClientView → List ClientView
begun_at config number clients (Some client) = clients
begun_at config number clients None = insert clients (place_of number clients) (new_client config number)

abbrev pub with_client : ClusterConfig → ℕ → List ClientView → List ClientView
with_client config number clients = begun_at config number clients (client_at number clients)

-- ---- connections

-- the number of the node at the address; where there is none, that behind the last one
abbrev pub is_at : Place → NodeConfig → Bool
is_at address node = bytes_eq node.host address.host && (node.port == address.port)

abbrev pub node_at : List NodeConfig → Place → ℕ
node_at nodes address = position_or_len (is_at address) nodes

-- the connection to the node
abbrev pub connection_to : ClientView → ℕ → Option Conn
connection_to client node = slice_index_or client.pool node None

abbrev pub with_connection : ClientView → ℕ → Option Conn → ClientView
with_connection client node conn = record client { pool = slice_set client.pool node conn }

-- the connection in use
abbrev pub used_by : Traffic → Option Link
used_by Quiet = None
used_by (Asked link words) = Some link
used_by (Answered link reply) = Some link

abbrev pub leads_to : ℕ → Option Link → Bool
leads_to node None = false
leads_to node (Some link) = link.node == node

-- ---- connections that break

-- why the call gets no reply: the whole request was handed to the connection
abbrev pub fault_of : Option Call → ClientFault
fault_of None = NotConnected
fault_of (Some call) = broken call.stage true

-- the connection in use, to that node, breaks
abbrev pub broken_off : ℕ → ClientView → ClientView
broken_off node client = record client {
  core = ended client.core (Err (fault_of client.core.call));
  pool = slice_set client.pool node None;
  traffic = Quiet;
}

-- the same while a request is under way on the connection, which may still come late
abbrev pub left_late : Link → List (List ℕ) → ClientView → ClientView
left_late link words client = record (broken_off link.node client) { late = client.late ++ (record { link = link; words = words }) ∷ [] }

-- what the client says of it
abbrev pub lost_by : ClientView → List Output
lost_by client = output.Answer client.number (Err (fault_of client.core.call)) ∷ []

-- ---- a node that stops

-- no late request reaches it any more
abbrev pub is_elsewhere : ℕ → Late → Bool
is_elsewhere node late = not (late.link.node == node)

abbrev pub without_late : ℕ → ClientView → ClientView
without_late node client = record client { late = filter (is_elsewhere node) client.late }

-- and the connections to it break
abbrev pub stopped_at : ℕ → ClientView → ClientView
stopped_at node client =
    if leads_to node (used_by client.traffic) then broken_off node (without_late node client) else without_late node client

abbrev pub lost_at : ℕ → ClientView → List Output
lost_at node client = if leads_to node (used_by client.traffic) then lost_by client else []

-- ---- what holds of each client

-- a reply is awaited
abbrev pub AwaitsReply : Option Call → Type 0
AwaitsReply None = ⊥
AwaitsReply (Some call) = call.stage ≢ Connecting

-- a connection is awaited
abbrev pub AwaitsConnection : Option Call → Type 0
AwaitsConnection None = ⊥
AwaitsConnection (Some call) = call.stage ≡ Connecting

abbrev pub Agrees : Traffic → Option Call → Type 0
Agrees Quiet under = under ≡ None
Agrees (Asked link words) under = AwaitsReply under
Agrees (Answered link reply) under = AwaitsReply under

-- a call is under way where something is under way between the client and a node
abbrev pub IsSettled : ClientView → Type 0
IsSettled client = Agrees client.traffic client.core.call
