-- Which requests may come to a node, by what was told and what their connections allow (Redis Cluster specification, "ASK
-- redirection").
use Rattle.std.specs.Prelude.{◌≡◌, ◌<◌, ℕ, Bool, true, false, List, reverse, Contains, Option, Some, None, slice_get, ⊤}
use Rattle.connections.specs.Connections.{connection_at, may_ask, opens_at}
use Rattle.connections.specs.declared.conn.Conn.{Conn}
use Rattle.node_step.specs.Requests.{asking_of}
use Rattle.node_step.specs.State.{NodeState}
use Rattle.node_step.specs.declared.event.Event.{Event}
use Rattle.node_step.specs.declared.event.Event.TheVariants.{Open, Close, Request, Deliver, Tick}
use Rattle.redirect.specs.declared.asked.Asking.{Asking}
use Rattle.redirect.specs.declared.asked.Asking.TheVariants.{No, Any, Of}
use Rattle.world_run.specs.Executed.{redirections}
use Rattle.world_run.specs.Run.{Entry}
use Rattle.world_nodes.specs.Nodes.{RunView}
use Rattle.world_nodes.specs.declared.link.Link.{Link}

-- what the nodes did, the newest first
abbrev pub past_of : RunView → List Entry
past_of run = reverse run.entries

-- ---- connections

-- what a connection allows its next request
abbrev pub asking_in : Option NodeState → Conn → Asking
asking_in None conn = No
asking_in (Some node) conn = asking_of (connection_at node.connections conn)

abbrev pub asking_at : RunView → Link → Asking
asking_at run link = asking_in (slice_get run.nodes link.node) link.conn

-- how often the key was opened
abbrev pub opens_in : Option NodeState → ℕ → ℕ
opens_in None key = 0
opens_in (Some node) key = opens_at node.connections key

-- the connection was opened at its node
abbrev pub IsKnown : RunView → Link → Type 0
IsKnown run link = link.conn.generation < opens_in (slice_get run.nodes link.node) link.conn.key

-- whether the node takes a request of the connection
abbrev pub may_ask_in : Option NodeState → Conn → Bool
may_ask_in None conn = false
may_ask_in (Some node) conn = may_ask (connection_at node.connections conn)

-- the connection is open at its node, and waits for no reply
abbrev pub IsReady : RunView → Link → Type 0
IsReady run link = may_ask_in (slice_get run.nodes link.node) link.conn ≡ true

-- ---- what was told

-- a request with these words was answered ASK, with this node and the move of this number
abbrev pub IsTold : List Entry → List (List ℕ) → ℕ → ℕ → Type 0
IsTold past words node number = Contains (redirections past) (record { words = words; to = node; number = number })

-- such a request may come to the node on a connection that allows this
abbrev pub IsAllowed : List Entry → List (List ℕ) → ℕ → Asking → Type 0
IsAllowed past words node No = ⊤
IsAllowed past words node Any = ⊥
IsAllowed past words node (Of number) = IsTold past words node number

-- a request that a node takes is one that may come there
abbrev pub MayTake : RunView → ℕ → Event → Type 0
MayTake run node (Request conn words) = IsAllowed (past_of run) words node (asking_at run (record { node = node; conn = conn }))
MayTake run node Open = ⊤
MayTake run node (Close conn) = ⊤
MayTake run node (Deliver message) = ⊤
MayTake run node Tick = ⊤
