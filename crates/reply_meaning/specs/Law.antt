-- What a node's answers to requests tell (the law is ours; the answers are those of the Redis Cluster specification, "MOVED Redirection",
-- "ASK redirection").
use Rattle.std.specs.Prelude.{◌≡◌, ◌⊎◌, ℕ, IsTrue, true, false, not, List, Option, Some, slice_get}
use Rattle.resp_values.specs.declared.reply.Reply.{Reply}
use Rattle.resp_values.specs.declared.reply.Reply.TheVariants.{Error}
use Rattle.cluster_config.specs.declared.config.NodeConfig.{NodeConfig}
use Rattle.connections.specs.Connections.{connection_at, may_ask}
use Rattle.connections.specs.declared.conn.Conn.{Conn}
use Rattle.redirection.specs.Address.{Place}
use Rattle.redirection.specs.Redirection.{IsMove, IsRedirection}
use Rattle.redirection.specs.declared.redirection.Redirection.TheVariants as redirection
use Rattle.redirect.specs.declared.decision.Decision.{Decision}
use Rattle.redirect.specs.declared.decision.Decision.TheVariants.{Ask}
use Rattle.smart_client.specs.Calls.{IsRefusal}
use Rattle.smart_client.specs.Step.{is_last_line}
use Rattle.smart_client.specs.declared.action.Event.TheVariants as happened
use Rattle.smart_client.specs.Words.{asking_words, is_refused, numbered_words}
use Rattle.node_step.specs.Numbers.{NoNumberLeft, has_offset}
use Rattle.node_step.specs.Orders.{done}
use Rattle.node_step.specs.State.{NodeState}
use Rattle.node_step.specs.Step.{NodeStep, written}
use Rattle.node_step.specs.declared.event.Event.TheVariants.{Request}
use Rattle.node_step.specs.declared.outputs.Outputs.{Outputs}
use Rattle.node_step.specs.declared.response.Answer.{Answer}
use Rattle.node_step.specs.declared.response.Response.TheVariants.{Replied}
use Rattle.world_run.specs.Executed.{decision_in, is_served}
use Rattle.reply_meaning.specs.Reasons.{IsReason}
use Rattle.reply_meaning.specs.Refusal.{is_refusal}

-- a step of a node in this state answers a request so
pub record Answers (node : NodeState) (conn : Conn) (words : List (List ℕ)) (answer : Answer) : Type 0 where
  pub ticket : ℕ
  pub outputs : Outputs
  pub after : NodeState
  pub step : NodeStep ticket node (Request conn words) outputs after
  pub response : outputs.response ≡ Replied answer

-- ---- execution

-- a command was executed exactly where the reply is no refusal
abbrev pub RepliesTellExecution : Type 0
RepliesTellExecution = (node : NodeState) (conn : Conn) (words : List (List ℕ)) (answer : Answer) → Answers node conn words answer → is_refused words ≡ false
    → is_served (decision_in answer.why) ≡ not (is_refusal answer.reply)

-- a reply by which a client's call goes on, or behind which the node closes the connection, is a refusal
abbrev pub CallsGoOnAfterRefusals : Type 0
CallsGoOnAfterRefusals = (reply : Reply) → IsRefusal (happened.Reply reply) ⊎ IsTrue (is_last_line reply) → is_refusal reply ≡ true

-- words about the cluster execute nothing
abbrev pub ClusterWordsAreNotExecuted : Type 0
ClusterWordsAreNotExecuted = (node : NodeState) (conn : Conn) (words : List (List ℕ)) (answer : Answer) → Answers node conn words answer → is_refused words ≡ true
    → is_served (decision_in answer.why) ≡ false

-- an error that answers a command is given for its reason
abbrev pub ErrorsHaveReasons : Type 0
ErrorsHaveReasons = (node : NodeState) (conn : Conn) (words : List (List ℕ)) (answer : Answer) (text : List ℕ) → Answers node conn words answer → is_refused words ≡ false
    → answer.reply ≡ Error text → IsReason node.config.nodes text answer.why

-- ---- what a client sends in front of a command

-- CLUSTER NUMBERED, and ASKING with a number that a move can have
pub data Prepares (words : List (List ℕ)) : Type 0 where
  numbers : words ≡ numbered_words → Prepares words
  asks : (number : ℕ) → IsMove (Some number) → words ≡ asking_words number → Prepares words

-- `+OK`
abbrev pub PreparationsAreWelcome : Type 0
PreparationsAreWelcome = (node : NodeState) (conn : Conn) (words : List (List ℕ)) (answer : Answer) → Answers node conn words answer → Prepares words → answer.reply ≡ done

-- ---- redirections

-- it was decided that the slot moves to the node at this place, in the move of this number
pub record IsOfMove (node : NodeState) (slot : ℕ) (place : Place) (number : ℕ) (decided : Option Decision) : Type 0 where
  pub to : ℕ
  pub config : NodeConfig
  pub decision : decided ≡ Some (Ask slot to number)
  pub is_node : slice_get node.config.nodes to ≡ Some config
  pub is_there : place ≡ record { host = config.host; port = config.port }

-- an ASK that names a move is of that move
abbrev pub AsksAreOfMoves : Type 0
AsksAreOfMoves = (node : NodeState) (conn : Conn) (words : List (List ℕ)) (answer : Answer) (text : List ℕ) (slot : ℕ) (place : Place) (number : ℕ)
    → Answers node conn words answer → answer.reply ≡ Error text → IsRedirection text (redirection.Ask slot place (Some number))
    → IsOfMove node slot place number (decision_in answer.why)

-- ---- a client waits for no other step

-- a command about data, or what is sent in front of one
pub data IsOfClient (words : List (List ℕ)) : Type 0 where
  command : is_refused words ≡ false → IsOfClient words
  numbers : words ≡ numbered_words → IsOfClient words
  asks : (number : ℕ) → words ≡ asking_words number → IsOfClient words

-- on an open connection that waits for no reply, the step answers
abbrev pub ClientsAreAnswered : Type 0
ClientsAreAnswered = (ticket : ℕ) (node after : NodeState) (conn : Conn) (words : List (List ℕ)) (outputs : Outputs) → NodeStep ticket node (Request conn words) outputs after
    → may_ask (connection_at node.connections conn) ≡ true → IsOfClient words → (answer : Answer) × (outputs.response ≡ Replied answer)

-- the words are about data, and the stream has no offset for what is written by them
pub record HasNoOffset (node : NodeState) (conn : Conn) (words : List (List ℕ)) : Type 0 where
  pub plain : is_refused words ≡ false
  pub none : has_offset node (written node conn words) ≡ false

-- and it finds no number only there: CLUSTER NUMBERED and ASKING, which are not about data, need none
abbrev pub ClientsNeedOffsetsAlone : Type 0
ClientsNeedOffsetsAlone = (node : NodeState) (conn : Conn) (words : List (List ℕ)) → IsOfClient words → NoNumberLeft node (Request conn words)
    → HasNoOffset node conn words
