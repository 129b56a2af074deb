-- Which clients keep to the asking rule (Redis Cluster specification, "ASK redirection": the next request alone is to be sent to
-- the node that ASK names, behind ASKING).
use Rattle.std.specs.Prelude.{◌≡◌, ◌⊎◌, ◌++◌, ◌∷◌, ℕ, false, List, [], length, reverse, slice_index_or, Contains, Option, Some, None, IfSome, slice_get, ⊤}
use Rattle.std.specs.List.{AllByRecursion}
use Rattle.cluster_config.specs.Config.{ClusterConfig}
use Rattle.cluster_config.specs.declared.config.NodeConfig.{NodeConfig}
use Rattle.command_table.specs.declared.error_line.ErrorLine.TheVariants.{Exhausted}
use Rattle.connections.specs.declared.conn.Conn.{Conn}
use Rattle.node_step.specs.Numbers.{has_offset}
use Rattle.node_step.specs.Orders.{done}
use Rattle.node_step.specs.Outcome.{error}
use Rattle.node_step.specs.State.{NodeState}
use Rattle.node_step.specs.Step.{written}
use Rattle.node_step.specs.declared.response.Answer.{Answer}
use Rattle.redirection.specs.Address.{Place}
use Rattle.redirection.specs.Redirection.{IsMove, IsRedirection}
use Rattle.redirection.specs.declared.redirection.Redirection.TheVariants as redirection
use Rattle.reply_meaning.specs.Law.{IsOfClient}
use Rattle.reply_meaning.specs.Reasons.{IsReason}
use Rattle.resp_values.specs.declared.reply.Reply.{Reply}
use Rattle.resp_values.specs.declared.reply.Reply.TheVariants.{Error}
use Rattle.redirect.specs.declared.asked.Asking.{Asking}
use Rattle.redirect.specs.declared.asked.Asking.TheVariants.{No, Any, Of}
use Rattle.smart_client.specs.State.{ClientState}
use Rattle.smart_client.specs.Step.{peer_at}
use Rattle.smart_client.specs.Words.{asking_words, is_refused, numbered_words}
use Rattle.smart_client.specs.declared.call.Call.{Call}
use Rattle.smart_client.specs.declared.call.Stage.{Stage}
use Rattle.smart_client.specs.declared.call.Stage.TheVariants as stage
use Rattle.world_run.specs.Executed.{answered}
use Rattle.world_run.specs.Run.{Entry, Goes, first_nodes}
use Rattle.world_run.specs.Run.Deed.{Skipped}
use Rattle.world_nodes.specs.Allowed.{IsAllowed, IsKnown, IsReady, IsTold, asking_at, past_of}
use Rattle.world_nodes.specs.Nodes.{HaveConfig, IsRunOf, RunView}
use Rattle.world_nodes.specs.declared.link.Link.{Link}
use Rattle.world.specs.Clients.{ClientView, leads_to, node_at, used_by}
use Rattle.world.specs.View.{SceneView}
use Rattle.world.specs.declared.client.Late.{Late}
use Rattle.world.specs.declared.client.Traffic.{Traffic}
use Rattle.world.specs.declared.client.Traffic.TheVariants.{Quiet, Asked, Answered}

-- ---- what was told

-- an ASK that names a move was decided so
abbrev pub TellsTruth : List NodeConfig → List Entry → List (List ℕ) → Reply → Type 0
TellsTruth nodes past words reply =
    (text : List ℕ) (slot : ℕ) (place : Place) (number : ℕ) → reply ≡ Error text → IsRedirection text (redirection.Ask slot place (Some number)) → IsTold past words (node_at nodes place) number

-- ---- calls

-- the node that the call goes to
abbrev pub target : List NodeConfig → ClientState → Call → ℕ
target nodes core call = node_at nodes (peer_at core.peers call.to).address

-- the words are about data, and where ASK sent the call, it goes to the node that ASK named
pub record IsCalled (nodes : List NodeConfig) (past : List Entry) (core : ClientState) (call : Call) : Type 0 where
  pub plain : is_refused call.words ≡ false
  pub number : IsMove call.asking
  pub told : IfSome call.asking (IsTold past call.words (target nodes core call))

-- the connection allows no more than the ASK that the call follows
abbrev pub Follows : Option ℕ → Asking → Type 0
Follows asked No = ⊤
Follows asked Any = ⊥
Follows asked (Of number) = asked ≡ Some number

-- ASKING, with the number of the move
abbrev pub IsAsking : Option ℕ → List (List ℕ) → Type 0
IsAsking None words = ⊥
IsAsking (Some number) words = words ≡ asking_words number

-- what the call sent, on a connection that allows this
abbrev pub IsSent : Call → Stage → List (List ℕ) → Asking → Type 0
IsSent call stage.Connecting words asking = ⊥
IsSent call stage.Introducing words asking = (words ≡ numbered_words) × (asking ≡ No)
IsSent call stage.Asking words asking = IsAsking call.asking words × (asking ≡ No)
IsSent call stage.Sent words asking = (words ≡ call.words) × Follows call.asking asking

-- the reply to it; a node that had no number for the request made no step
abbrev pub IsReplied : List NodeConfig → List Entry → Call → Stage → Reply → Asking → Type 0
IsReplied nodes past call stage.Connecting reply asking = ⊥
IsReplied nodes past call stage.Introducing reply asking = asking ≡ No
IsReplied nodes past call stage.Asking reply asking = Follows call.asking asking
IsReplied nodes past call stage.Sent reply asking = ((asking ≡ No) ⊎ (reply ≡ error Exhausted)) × TellsTruth nodes past call.words reply

-- the node answered a request with these words so, and for its reason
pub record WasAnswered (nodes : List NodeConfig) (past : List Entry) (node : ℕ) (words : List (List ℕ)) (reply : Reply) : Type 0 where
  pub entry : Entry
  pub among : Contains past entry
  pub there : entry.node ≡ node
  pub answer : Answer
  pub gives : answered entry.deed ≡ Some (record { words = words; answer = answer })
  pub same : answer.reply ≡ reply
  pub reason : (text : List ℕ) → reply ≡ Error text → IsReason nodes text answer.why

-- a request with these words came to its node in this past of the cluster, and the node's stream had no offset for what would have been
-- written by it: no step was made, so nothing was executed
pub record HadNoOffset (config : ClusterConfig) (past : List Entry) (link : Link) (words : List (List ℕ)) : Type 0 where
  pub earlier : List Entry
  pub later : List Entry
  pub ticket : ℕ
  pub skipped : past ≡ later ++ (record { node = link.node; ticket = ticket; deed = Skipped }) ∷ earlier
  pub nodes : List NodeState
  pub goes : Goes [] (first_nodes config) (reverse earlier) nodes
  pub state : NodeState
  pub was : slice_get nodes link.node ≡ Some state
  pub none : has_offset state (written state link.conn words) ≡ false

-- EXHAUSTED answers such a request
pub record WasRefused (run : RunView) (link : Link) (words : List (List ℕ)) (reply : Reply) : Type 0 where
  pub config : ClusterConfig
  pub have : HaveConfig config run.nodes
  pub had : HadNoOffset config (past_of run) link words
  pub same : reply ≡ error Exhausted

-- where the reply to what the call sent comes from: what stands in front of its command is welcome
abbrev pub ComesFrom : List NodeConfig → RunView → Link → Call → Stage → Reply → Type 0
ComesFrom nodes run link call stage.Connecting reply = ⊥
ComesFrom nodes run link call stage.Introducing reply = reply ≡ done
ComesFrom nodes run link call stage.Asking reply = reply ≡ done
ComesFrom nodes run link call stage.Sent reply = WasAnswered nodes (past_of run) link.node call.words reply ⊎ WasRefused run link call.words reply

-- ---- clients

-- the connection is the one to its node
abbrev pub IsInPool : List (Option Conn) → Link → Type 0
IsInPool pool link = slice_index_or pool link.node None ≡ Some link.conn

-- the connection was cut under a request
abbrev pub IsCutOff : List Late → Link → Type 0
IsCutOff late link = (request : Late) × Contains late request × (request.link ≡ link)

-- a connection that is kept allows nothing, where it isn't in use
pub record IsIdle (run : RunView) (used : Option Link) (link : Link) : Type 0 where
  pub known : IsKnown run link
  pub calm : leads_to link.node used ≡ false → asking_at run link ≡ No

-- a request on a connection that was cut may still come to its node
pub record MayComeLate (run : RunView) (request : Late) : Type 0 where
  pub known : IsKnown run request.link
  pub allowed : IsAllowed (past_of run) request.words request.link.node (asking_at run request.link)

-- a client's connections
pub record AreConnected (run : RunView) (pool : List (Option Conn)) (late : List Late) (used : Option Link) : Type 0 where
  pub places : length pool ≡ length run.nodes
  pub idle : (link : Link) → IsInPool pool link → IsIdle run used link
  pub left : (request : Late) → Contains late request → MayComeLate run request
  pub apart : (link : Link) → IsInPool pool link → IsCutOff late link → ⊥

-- the connection in use is that to the node of the call
pub record IsUnderWay (nodes : List NodeConfig) (past : List Entry) (core : ClientState) (pool : List (Option Conn)) (link : Link) (call : Call) : Type 0 where
  pub called : IsCalled nodes past core call
  pub there : link.node ≡ target nodes core call
  pub in_use : IsInPool pool link

abbrev pub IsOfCall : List NodeConfig → RunView → ClientState → List (Option Conn) → Traffic → Option Call → Type 0
IsOfCall nodes run core pool Quiet call = call ≡ None
IsOfCall nodes run core pool (Asked link words) None = ⊥
IsOfCall nodes run core pool (Asked link words) (Some call) =
    IsUnderWay nodes (past_of run) core pool link call × IsSent call call.stage words (asking_at run link)
IsOfCall nodes run core pool (Answered link reply) None = ⊥
IsOfCall nodes run core pool (Answered link reply) (Some call) =
    IsUnderWay nodes (past_of run) core pool link call × IsReplied nodes (past_of run) call call.stage reply (asking_at run link)
    × ComesFrom nodes run link call call.stage reply

-- a client asks only what it was told to ask
pub record AsksWell (nodes : List NodeConfig) (run : RunView) (client : ClientView) : Type 0 where
  pub connected : AreConnected run client.pool client.late (used_by client.traffic)
  pub call : IsOfCall nodes run client.core client.pool client.traffic client.core.call

-- ---- all clients

-- the connection is one of the client's
abbrev pub Holds : ClientView → Link → Type 0
Holds client link = IsInPool client.pool link ⊎ IsCutOff client.late link

-- no connection is that of both
abbrev pub AreApart : ClientView → ClientView → Type 0
AreApart client other = (link : Link) → Holds client link → Holds other link → ⊥

-- of these clients, each asks only what it was told to ask, on connections of its own
abbrev pub AllAskWell : List NodeConfig → RunView → List ClientView → Type 0
AllAskWell nodes run [] = ⊤
AllAskWell nodes run (client ∷ clients) = AsksWell nodes run client × AllByRecursion (AreApart client) clients × AllAskWell nodes run clients

-- each connection that is kept is ready
abbrev pub AreReady : RunView → List (Option Conn) → Type 0
AreReady run pool = (link : Link) → IsInPool pool link → IsReady run link

-- of each of these clients
abbrev pub AllReady : RunView → List ClientView → Type 0
AllReady run [] = ⊤
AllReady run (client ∷ clients) = AreReady run client.pool × AllReady run clients

pub record KeepsRule (scene : SceneView) : Type 0 where
  pub nodes : length scene.run.nodes ≡ length scene.config.nodes
  pub goes : IsRunOf scene.config scene.run
  pub configs : HaveConfig scene.config scene.run.nodes
  pub clients : AllAskWell scene.config.nodes scene.run scene.clients
  pub ready : AllReady scene.run scene.clients

-- ---- requests

-- a request may come to its node, which answers it: its connection is ready, and its words are a client's
pub record MayArrive (run : RunView) (link : Link) (words : List (List ℕ)) : Type 0 where
  pub allowed : IsAllowed (past_of run) words link.node (asking_at run link)
  pub ready : IsReady run link
  pub of_client : IsOfClient words

-- so may the one that is under way to its node
abbrev pub MayBeCarried : RunView → Traffic → Type 0
MayBeCarried run Quiet = ⊤
MayBeCarried run (Asked link words) = MayArrive run link words
MayBeCarried run (Answered link reply) = ⊤

abbrev pub MayLinger : RunView → List Late → Type 0
MayLinger run [] = ⊤
MayLinger run (request ∷ others) = IsAllowed (past_of run) request.words request.link.node (asking_at run request.link)
