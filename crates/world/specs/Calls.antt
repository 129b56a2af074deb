-- What comes of the steps of a client (ours).
use Rattle.std.specs.Prelude.{◌≡◌, ◌++◌, ◌∷◌, ℕ, Bool, true, false, List, [], Option, Some, None, IsSome, MatchBool, ⊤}
use Rattle.cluster_config.specs.declared.config.NodeConfig.{NodeConfig}
use Rattle.connections.specs.declared.conn.Conn.{Conn}
use Rattle.redirection.specs.Address.{Place}
use Rattle.resp_values.specs.declared.reply.Reply.{Reply}
use Rattle.smart_client.specs.State.{ClientState}
use Rattle.smart_client.specs.Step.{Steps}
use Rattle.smart_client.specs.declared.action.Action.{Action}
use Rattle.smart_client.specs.declared.action.Action.TheVariants as wanted
use Rattle.smart_client.specs.declared.action.Event.{Event}
use Rattle.smart_client.specs.declared.action.Event.TheVariants as happened
use Rattle.world_nodes.specs.NodeSteps.{Closes}
use Rattle.world_nodes.specs.Nodes.{RunView, is_up}
use Rattle.world_nodes.specs.Serving.{IsOpened, Serves, ServesLast}
use Rattle.world_nodes.specs.declared.link.Link.{Link}
use Rattle.world_nodes.specs.declared.output.Output.{Output}
use Rattle.world_nodes.specs.declared.output.Output.TheVariants as output
use Rattle.world.specs.Clients.{ClientView, broken_off, connection_to, lost_by, node_at, with_connection}
use Rattle.world.specs.declared.client.Late.{Late}
use Rattle.world.specs.declared.client.Traffic.{Traffic}
use Rattle.world.specs.declared.client.Traffic.TheVariants.{Quiet, Asked, Answered}

-- ---- connections

-- the one that is kept, or else a new one
abbrev pub IsUsed : RunView → ℕ → Option Conn → Option Conn → RunView → Type 0
IsUsed old node (Some one) conn new = (new ≡ old) × (conn ≡ Some one)
IsUsed old node None conn new = IsOpened old node conn new

-- there is none to a node that was stopped
abbrev pub IsConnected : RunView → ℕ → Option Conn → Option Conn → RunView → Type 0
IsConnected old node before conn new = MatchBool (is_up old node) (IsUsed old node before conn new) ((new ≡ old) × (conn ≡ None))

abbrev pub link_to : ℕ → Option Conn → Option Link
link_to node None = None
link_to node (Some conn) = Some (record { node = node; conn = conn })

-- what the client is told of it
abbrev pub told_of : Option Link → Event
told_of None = happened.NotConnected
told_of (Some link) = happened.Connected

-- the node closes the connection at once, if it wasn't stopped
abbrev pub IsShut : RunView → Link → RunView → Type 0
IsShut old link new = MatchBool (is_up old link.node) (Closes old link.node (link.conn ∷ []) new) (new ≡ old)

-- ---- what a client wants done

-- the call is over, and its connection is closed where that is wanted
abbrev pub GivesUp : RunView → ClientView → Option Link → Bool → RunView → ClientView → Type 0
GivesUp old client (Some link) true new after = IsShut old link new × (after ≡ with_connection client link.node None)
GivesUp old client (Some link) false new after = (new ≡ old) × (after ≡ client)
GivesUp old client None close new after = (new ≡ old) × (after ≡ client)

-- words are sent on the connection in use
abbrev pub Sends : RunView → ClientView → Option Link → List (List ℕ) → List Output → RunView → ClientView → Type 0
Sends old client (Some link) words outputs new after = (new ≡ old) × (after ≡ record client { traffic = Asked link words }) × (outputs ≡ [])
Sends old client None words outputs new after = ⊥

-- with the connection in use, if there is one
abbrev pub Uses : RunView → ClientView → Option Link → Action → List Output → RunView → ClientView → Type 0
Uses old client link (wanted.Connect address) outputs new after = ⊥
Uses old client link (wanted.Send words) outputs new after = Sends old client link words outputs new after
Uses old client link (wanted.Done answer close) outputs new after =
    GivesUp old client link close new after × (outputs ≡ output.Answer client.number answer ∷ [])

-- the client is told whether there is a connection, and uses it
pub record Tells (old : RunView) (client : ClientView) (link : Option Link) (event : Event) (outputs : List Output) (new : RunView) (after : ClientView) : Type 0 where
  pub core : ClientState
  pub action : Action
  pub steps : Steps client.core event action core
  pub uses : Uses old (record client { core = core }) link action outputs new after

-- a connection to the address is made, where none is kept
pub record Connects (nodes : List NodeConfig) (old : RunView) (client : ClientView) (address : Place) (outputs : List Output) (new : RunView) (after : ClientView) : Type 0 where
  pub conn : Option Conn
  pub run : RunView
  pub connected : IsConnected old (node_at nodes address) (connection_to client (node_at nodes address)) conn run
  pub tells : Tells run (with_connection client (node_at nodes address) conn) (link_to (node_at nodes address) conn) (told_of (link_to (node_at nodes address) conn)) outputs new after

-- whatever it wants
abbrev pub Acts : List NodeConfig → RunView → ClientView → Option Link → Action → List Output → RunView → ClientView → Type 0
Acts nodes old client link (wanted.Connect address) outputs new after = Connects nodes old client address outputs new after
Acts nodes old client link (wanted.Send words) outputs new after = Uses old client link (wanted.Send words) outputs new after
Acts nodes old client link (wanted.Done answer close) outputs new after = Uses old client link (wanted.Done answer close) outputs new after

-- the client takes the event, and what it then wants is done
pub record Takes (nodes : List NodeConfig) (old : RunView) (client : ClientView) (link : Option Link) (event : Event) (outputs : List Output) (new : RunView) (after : ClientView) : Type 0 where
  pub core : ClientState
  pub action : Action
  pub steps : Steps client.core event action core
  pub acts : Acts nodes old (record client { core = core }) link action outputs new after

-- words can be sent only where there is a connection
abbrev pub CanDo : Option Link → Action → Type 0
CanDo link (wanted.Send words) = IsSome link
CanDo link (wanted.Connect address) = ⊤
CanDo link (wanted.Done answer close) = ⊤

-- a client that was told whether there is one wants no other
abbrev pub MayUse : Option Link → Action → Type 0
MayUse link (wanted.Send words) = IsSome link
MayUse link (wanted.Connect address) = ⊥
MayUse link (wanted.Done answer close) = ⊤

-- ---- steps of a client

-- there was nothing to do
pub record Rests (old : RunView) (client : ClientView) (outputs : List Output) (new : RunView) (after : ClientView) : Type 0 where
  pub run : new ≡ old
  pub same : after ≡ client
  pub shows : outputs ≡ output.Nothing ∷ []

-- a call begins, where none is under way
abbrev pub IsBegun : List NodeConfig → RunView → ClientView → Traffic → List (List ℕ) → List Output → RunView → ClientView → Type 0
IsBegun nodes old client Quiet words outputs new after = Takes nodes old client None (happened.Call words) outputs new after
IsBegun nodes old client (Asked link sent) words outputs new after = Rests old client outputs new after
IsBegun nodes old client (Answered link reply) words outputs new after = Rests old client outputs new after

abbrev pub Begins : List NodeConfig → List (List ℕ) → RunView → ClientView → List Output → RunView → ClientView → Type 0
Begins nodes words old client outputs new after = IsBegun nodes old client client.traffic words outputs new after

-- the request reaches its node, and the reply is on its way
pub record Arrives (old : RunView) (client : ClientView) (link : Link) (words : List (List ℕ)) (outputs : List Output) (new : RunView) (after : ClientView) : Type 0 where
  pub reply : Reply
  pub serves : Serves old link.node link.conn words (Some reply) outputs new
  pub left : after ≡ record client { traffic = Answered link reply }

abbrev pub IsCarried : RunView → ClientView → Traffic → List Output → RunView → ClientView → Type 0
IsCarried old client (Asked link words) outputs new after =
    MatchBool (is_up old link.node) (Arrives old client link words outputs new after) (Rests old client outputs new after)
IsCarried old client Quiet outputs new after = Rests old client outputs new after
IsCarried old client (Answered link reply) outputs new after = Rests old client outputs new after

abbrev pub Carries : RunView → ClientView → List Output → RunView → ClientView → Type 0
Carries old client outputs new after = IsCarried old client client.traffic outputs new after

-- the reply reaches the client
abbrev pub IsReturned : List NodeConfig → RunView → ClientView → Traffic → List Output → RunView → ClientView → Type 0
IsReturned nodes old client (Answered link reply) outputs new after =
    Takes nodes old (record client { traffic = Quiet }) (Some link) (happened.Reply reply) outputs new after
IsReturned nodes old client Quiet outputs new after = Rests old client outputs new after
IsReturned nodes old client (Asked link words) outputs new after = Rests old client outputs new after

abbrev pub Returns : List NodeConfig → RunView → ClientView → List Output → RunView → ClientView → Type 0
Returns nodes old client outputs new after = IsReturned nodes old client client.traffic outputs new after

-- the connection in use is cut: a request stays under way, a reply is lost
abbrev pub IsCut : RunView → ClientView → Traffic → List Output → RunView → ClientView → Type 0
IsCut old client Quiet outputs new after = Rests old client outputs new after
IsCut old client (Asked link words) outputs new after =
    (new ≡ old) × (after ≡ record (broken_off link.node client) { late = client.late ++ (record { link = link; words = words }) ∷ [] })
    × (outputs ≡ lost_by client)
IsCut old client (Answered link reply) outputs new after =
    IsShut old link new × (after ≡ broken_off link.node client) × (outputs ≡ lost_by client)

abbrev pub Cuts : RunView → ClientView → List Output → RunView → ClientView → Type 0
Cuts old client outputs new after = IsCut old client client.traffic outputs new after

-- a request on a connection that was cut reaches its node
pub record ComesLate (old : RunView) (client : ClientView) (late : Late) (others : List Late) (outputs : List Output) (new : RunView) (after : ClientView) : Type 0 where
  pub serves : ServesLast old late.link.node late.link.conn late.words outputs new
  pub left : after ≡ record client { late = others }

abbrev pub IsLate : RunView → ClientView → List Late → List Output → RunView → ClientView → Type 0
IsLate old client [] outputs new after = Rests old client outputs new after
IsLate old client (late ∷ others) outputs new after =
    MatchBool (is_up old late.link.node) (ComesLate old client late others outputs new after) (Rests old client outputs new after)

abbrev pub Lingers : RunView → ClientView → List Output → RunView → ClientView → Type 0
Lingers old client outputs new after = IsLate old client client.late outputs new after
