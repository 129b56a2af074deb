-- Why clients are told what they are told (Redis Cluster specification, "MOVED Redirection", "ASK redirection", "Clients first connection
-- and handling of redirections"; the limits are this project's own).
use Rattle.std.specs.Prelude.{◌≡◌, ◌⊎◌, ◌||◌, ◌∷◌, ℕ, true, false, List, [], Option, Some, None, Ok, Err, Contains, codes, slice_get, ⊤}
use Rattle.command_table.specs.declared.error_line.ErrorLine.TheVariants.{Exhausted}
use Rattle.node_step.specs.Numbers.{NoNumberLeft}
use Rattle.node_step.specs.Outcome.{error}
use Rattle.node_step.specs.State.{NodeState}
use Rattle.node_step.specs.declared.event.Event.TheVariants.{Open}
use Rattle.redirection.specs.Address.{Place}
use Rattle.reply_meaning.specs.Reasons.{is_of_kind}
use Rattle.resp_values.specs.declared.reply.Reply.{Reply}
use Rattle.resp_values.specs.declared.reply.Reply.TheVariants.{Error}
use Rattle.smart_client.specs.State.{ClientState}
use Rattle.smart_client.specs.Step.{Answer, Steps}
use Rattle.smart_client.specs.Words.{is_refused}
use Rattle.smart_client.specs.declared.action.Action.TheVariants.{Connect}
use Rattle.smart_client.specs.declared.action.Event.{Event}
use Rattle.smart_client.specs.declared.action.Event.TheVariants as happened
use Rattle.smart_client.specs.declared.call.Call.{Call}
use Rattle.smart_client.specs.declared.call.Stage.TheVariants.{Sent}
use Rattle.smart_client.specs.Limits.{most_redirections}
use Rattle.smart_client.specs.declared.fault.ClientFault.TheVariants.{Lost, TooManyRedirects, StillTryAgain, Memory, NotConnected, BadReply, NotData}
use Rattle.world_nodes.specs.Allowed.{past_of}
use Rattle.world_nodes.specs.Nodes.{RunView, is_up}
use Rattle.world_nodes.specs.declared.link.Link.{Link}
use Rattle.world_nodes.specs.declared.output.Output.{Output}
use Rattle.world_nodes.specs.declared.output.Output.TheVariants as output
use Rattle.world.specs.Asking.{HadNoOffset, WasAnswered}
use Rattle.world.specs.Clients.{ClientView, leads_to, new_client, node_at, used_by}
use Rattle.world.specs.View.{SceneView}
use Rattle.world.specs.declared.client.Traffic.TheVariants.{Quiet, Answered}
use Rattle.world.specs.declared.step.Step.{Step}
use Rattle.world.specs.declared.step.Step.TheVariants as step

-- ---- what happens to a client in a step

-- a call begins with these words
abbrev pub IsBeginning : Step → ClientView → List (List ℕ) → Type 0
IsBeginning made client words = (made ≡ step.Call client.number words) × (client.traffic ≡ Quiet)

-- the reply to what its call sent last comes on this connection
pub record IsReturn (made : Step) (client : ClientView) (call : Call) (link : Link) (reply : Reply) : Type 0 where
  pub returns : made ≡ step.Return client.number
  pub under_way : client.core.call ≡ Some call
  pub comes : client.traffic ≡ Answered link reply

abbrev pub Happens : Step → ClientView → Event → Type 0
Happens made client (happened.Call words) = IsBeginning made client words
Happens made client (happened.Reply reply) = (call : Call) × (link : Link) × IsReturn made client call link reply
Happens made client _ = ⊥

-- its connection in use is cut, or the node at the other end is stopped
abbrev pub Breaks : Step → ClientView → Type 0
Breaks (step.Cut number) client = client.number ≡ number
Breaks (step.Stop node) client = leads_to node (used_by client.traffic) ≡ true
Breaks _ client = ⊥

-- ---- reasons

-- EXHAUSTED, where the stream of the node had no offset left for what the command writes as it came there: the node made no step for it, so
-- nothing of it was executed
pub record IsExhausted (old : SceneView) (link : Link) (words : List (List ℕ)) (reply : Reply) : Type 0 where
  pub had : HadNoOffset old.config (past_of old.run) link words
  pub same : reply ≡ error Exhausted

-- the node's answer to the command comes, which is never EXHAUSTED, or EXHAUSTED does, for this reason alone
pub record IsAnswered (old : SceneView) (made : Step) (client : ClientView) (reply : Reply) : Type 0 where
  pub call : Call
  pub link : Link
  pub returns : IsReturn made client call link reply
  pub sent : call.stage ≡ Sent
  pub answered : WasAnswered old.config.nodes (past_of old.run) link.node call.words reply ⊎ IsExhausted old link call.words reply

-- the command was handed to the connection
abbrev pub IsHandedOver : Option Call → Type 0
IsHandedOver None = ⊥
IsHandedOver (Some call) = call.stage ≡ Sent

-- there is no such node, or it was stopped, or it has no number left for a connection
abbrev pub HasNoConnection : RunView → ℕ → Type 0
HasNoConnection run node = (is_up run node ≡ false) ⊎ ((state : NodeState) × (slice_get run.nodes node ≡ Some state) × NoNumberLeft state Open)

-- the client wants one there
pub record IsOutOfReach (old : SceneView) (made : Step) (client : ClientView) : Type 0 where
  pub event : Event
  pub happens : Happens made client event
  pub address : Place
  pub core : ClientState
  pub wants : Steps client.core event (Connect address) core
  pub none : HasNoConnection old.run (node_at old.config.nodes address)

-- an error with this text answers the command
pub record IsRefused (made : Step) (client : ClientView) (call : Call) (text : List ℕ) : Type 0 where
  pub link : Link
  pub returns : IsReturn made client call link (Error text)
  pub sent : call.stage ≡ Sent

-- MOVED or ASK does
pub record IsSentOn (made : Step) (client : ClientView) : Type 0 where
  pub call : Call
  pub text : List ℕ
  pub refused : IsRefused made client call text
  pub kind : (is_of_kind text (codes "MOVED") || is_of_kind text (codes "ASK")) ≡ true

-- TRYAGAIN does
pub record IsPutOff (made : Step) (client : ClientView) : Type 0 where
  pub call : Call
  pub text : List ℕ
  pub refused : IsRefused made client call text
  pub kind : is_of_kind text (codes "TRYAGAIN") ≡ true

-- the client is told this in the step, from the scene before it; nothing that it sent is unanswered where memory is refused, and no client
-- is told that a reply is one that no node gives
abbrev pub HasReason : SceneView → Step → ClientView → Answer → Type 0
HasReason old made client (Ok reply) = IsAnswered old made client reply
HasReason old made client (Err Lost) = Breaks made client × IsHandedOver client.core.call
HasReason old made client (Err NotConnected) = Breaks made client ⊎ IsOutOfReach old made client
HasReason old made client (Err TooManyRedirects) = (last : IsSentOn made client) × (last.call.redirections ≡ most_redirections)
HasReason old made client (Err StillTryAgain) = (last : IsPutOff made client) × (last.call.repeats ≡ client.core.limit)
HasReason old made client (Err BadReply) = ⊥
HasReason old made client (Err NotData) = (words : List (List ℕ)) × IsBeginning made client words × (is_refused words ≡ true)
HasReason old made client (Err Memory) = (event : Event) × Happens made client event

-- ---- all answers

-- the client is one of the scene, or begins
abbrev pub IsThere : SceneView → ClientView → Type 0
IsThere old client = Contains old.clients client ⊎ (client ≡ new_client old.config client.number)

-- each answer that the step shows has its reason
abbrev pub HaveReasons : SceneView → Step → List Output → Type 0
HaveReasons old made [] = ⊤
HaveReasons old made (output.Answer number answer ∷ shown) =
    ((client : ClientView) × IsThere old client × (client.number ≡ number) × HasReason old made client answer) × HaveReasons old made shown
HaveReasons old made (output.Admin node reply ∷ shown) = HaveReasons old made shown
HaveReasons old made (output.Sent number message ∷ shown) = HaveReasons old made shown
HaveReasons old made (output.Promoted node promotion ∷ shown) = HaveReasons old made shown
HaveReasons old made (output.Nothing ∷ shown) = HaveReasons old made shown
