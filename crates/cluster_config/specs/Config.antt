-- A cluster as it starts (Redis Cluster specification, "Key distribution model", "Cluster nodes attributes").
use Rattle.std.specs.Prelude.{ℕ, ◌+◌, ◌<◌, ◌≤◌, ◌&&◌, ◌||◌, ◌==◌, not, nat_lt, nat_le, Bool, true, List, [], ◌∷◌, ◌++◌, map, length, slice_get, Option, Some, None, All, IsTrue, ⊤}
use Rattle.std.specs.List.{list_all, flat_map}
use Rattle.std.specs.Ordering.{is_lt, nat_cmp}
use Rattle.std.specs.Cmp.Lexicographic.{slice_cmp}
use Rattle.std.specs.Str.{bytes_eq}
use Rattle.cluster_config.specs.Texts.{is_host}
use Rattle.slot_table.specs.declared.runs.Run.{Run}
use Rattle.cluster_config.specs.declared.config.NodeConfig.{NodeConfig}
use Rattle.cluster_config.specs.declared.config.Role.{Role}
use Rattle.cluster_config.specs.declared.config.Role.TheVariants.{Master, Replica}
use Rattle.key_slot.specs.declared.slots.SlotRange.{SlotRange}

-- its nodes by their numbers, the numbers of those that vote, the length of a tick, how many of them a node may be silent, and how
-- many bytes of its stream of writes a node keeps
pub record ClusterConfig : Type 0 where
  pub tick_ms : ℕ
  pub node_timeout : ℕ
  pub backlog : ℕ
  pub nodes : List NodeConfig
  pub voters : List ℕ

-- the cluster of these parts
abbrev pub cluster_with : ℕ → ℕ → ℕ → List NodeConfig → List ℕ → ClusterConfig
cluster_with tick_ms node_timeout backlog nodes voters = record {
  tick_ms = tick_ms;
  node_timeout = node_timeout;
  backlog = backlog;
  nodes = nodes;
  voters = voters;
}

-- the test passes for each element with each later one
abbrev pub all_pairs : {A : Type 0} → (A → A → Bool) → List A → Bool
all_pairs test [] = true
all_pairs test (x ∷ xs) = list_all (test x) xs && all_pairs test xs

-- byte by byte, a text before those that begin with it
abbrev pub is_below : List ℕ → List ℕ → Bool
is_below text other = is_lt (slice_cmp nat_cmp text other)

-- one ends before the other begins
abbrev pub are_apart : SlotRange → SlotRange → Bool
are_apart range other = nat_lt range.last other.first || nat_lt other.last range.first

-- two numbers
abbrev pub differ : ℕ → ℕ → Bool
differ number other = not (number == other)

-- it has a slot
abbrev pub has_slot : SlotRange → Bool
has_slot range = nat_le range.first range.last

-- the slots of a master; a replica has none
abbrev pub ranges_in : Role → List SlotRange
ranges_in (Master slots) = slots
ranges_in (Replica of) = []

-- the slots of all nodes, in order
abbrev pub ranges_of : List NodeConfig → List SlotRange
ranges_of nodes = flat_map (λ (node : NodeConfig). ranges_in node.role) nodes

-- two hosts or two ports
abbrev pub is_elsewhere : NodeConfig → NodeConfig → Bool
is_elsewhere node other = not (bytes_eq node.host other.host && (node.port == other.port))

-- the role of a master
abbrev pub IsMasterRole : Role → Type 0
IsMasterRole (Master slots) = ⊤
IsMasterRole (Replica of) = ⊥

-- the node is there, and it is a master
abbrev pub IsMaster : Option NodeConfig → Type 0
IsMaster None = ⊥
IsMaster (Some node) = IsMasterRole node.role

-- a replica is one of a master
abbrev pub FollowsMaster : List NodeConfig → Role → Type 0
FollowsMaster nodes (Master slots) = ⊤
FollowsMaster nodes (Replica of) = IsMaster (slice_get nodes of)

-- from 1 to the last number
abbrev pub IsUpTo : ℕ → ℕ → Type 0
IsUpTo last number = (1 ≤ number) × (number ≤ last)

-- what holds of each cluster: 1 to 16 nodes in the order of their ids, each with a host and a port that no other has; ranges that have slots,
-- of which none is in two; a master for each replica; at least one vote, each of a node, none twice; times, ports and backlog within
-- their bounds
pub record IsCluster (config : ClusterConfig) : Type 0 where
  pub tick_ms : IsUpTo 1000000 config.tick_ms
  pub node_timeout : IsUpTo 1000000 config.node_timeout
  pub backlog : IsUpTo 16777216 config.backlog
  pub some : 0 < length config.nodes
  pub most : length config.nodes ≤ 16
  pub ids : IsTrue (all_pairs (λ (node next : NodeConfig). is_below node.id next.id) config.nodes)
  pub hosts : All (λ (node : NodeConfig). IsTrue (is_host node.host)) config.nodes
  pub ports : All (λ (node : NodeConfig). IsUpTo 65535 node.port) config.nodes
  pub addresses : IsTrue (all_pairs is_elsewhere config.nodes)
  pub ranges : IsTrue (list_all has_slot (ranges_of config.nodes))
  pub slots : IsTrue (all_pairs are_apart (ranges_of config.nodes))
  pub masters : All (λ (node : NodeConfig). FollowsMaster config.nodes node.role) config.nodes
  pub votes : 0 < length config.voters
  pub voters : All (λ number. number < length config.nodes) config.voters
  pub once : IsTrue (all_pairs differ config.voters)

-- the slots of a range, owned by the node
abbrev pub run_of : ℕ → SlotRange → Run ℕ
run_of number range = record { slots = range; value = number }

-- the slots of a master, range by range; a replica has none
abbrev pub runs_of : ℕ → Role → List (Run ℕ)
runs_of number role = map (run_of number) (ranges_in role)

-- the slots of the nodes, the first of which has that number
abbrev pub owners_from : ℕ → List NodeConfig → List (Run ℕ)
owners_from number [] = []
owners_from number (node ∷ nodes) = runs_of number node.role ++ owners_from (number + 1) nodes

-- who owns which slots as the cluster starts
abbrev pub first_owners : ClusterConfig → List (Run ℕ)
first_owners config = owners_from 0 config.nodes
