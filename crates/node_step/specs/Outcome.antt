-- What comes of an event at a node (ours: the Redis Cluster specification has no steps).
use Rattle.std.specs.Prelude.{ℕ, List, [], map, Option, None}
use Rattle.resp_values.specs.declared.reply.Reply.{Reply}
use Rattle.resp_values.specs.declared.reply.Reply.TheVariants.{Error}
use Rattle.command_table.specs.ErrorLine.{error_text}
use Rattle.command_table.specs.declared.error_line.ErrorLine.{ErrorLine}
use Rattle.bus.specs.declared.message.Body.{Body}
use Rattle.bus.specs.declared.message.Message.{Message}
use Rattle.node_step.specs.State.{NodeState}
use Rattle.connections.specs.declared.conn.Conn.{Conn}
use Rattle.node_step.specs.declared.outputs.Outputs.{Outputs}
use Rattle.node_step.specs.declared.promotion.Promotion.{Promotion}
use Rattle.node_step.specs.declared.outputs.Release.{Release}
use Rattle.node_step.specs.declared.response.Response.{Response}
use Rattle.node_step.specs.declared.response.Response.TheVariants.{Nothing, Replied}
use Rattle.node_step.specs.declared.response.Why.{Why}

-- what the sender of the event gets back, the replies to connections that waited, the messages to other nodes, each with
-- the node that it is for, the promotion of the node, if it is promoted, and its next state
pub record Outcome : Type 0 where
  pub response : Response
  pub released : List Release
  pub sent : List (ℕ × Body)
  pub promoted : Option Promotion
  pub state : NodeState

-- nothing comes out, and this is the next state
abbrev pub silent : NodeState → Outcome
silent node = record { response = Nothing; released = []; sent = []; promoted = None; state = node }

-- a reply comes out, and nothing else
abbrev pub replied : NodeState → Why → Reply → Outcome
replied node why reply = record (silent node) { response = Replied (record { why = why; reply = reply }) }

-- the same with messages
abbrev pub replied_sending : NodeState → Why → Reply → List (ℕ × Body) → Outcome
replied_sending node why reply sent = record (replied node why reply) { sent = sent }

abbrev pub error : ErrorLine → Reply
error line = Error (error_text line)

-- connections that waited get this reply
abbrev pub release : Reply → Conn → Release
release reply conn = record { conn = conn; reply = reply }

-- ---- the stamp of a step

-- a message carries its sender, the ticket of the step that sends it, and the sender's epoch after that step
abbrev pub stamped : ℕ → ℕ → ℕ → ℕ × Body → Message
stamped from ticket epoch body = record { from = from; to = body.0; ticket = ticket; epoch = epoch; body = body.1 }

-- nothing comes out of a step under the ticket
abbrev pub no_outputs : ℕ → Outputs
no_outputs ticket = record { ticket = ticket; response = Nothing; released = []; sent = []; promoted = None }

-- the outputs of a step
abbrev pub outputs_of : ℕ → Outcome → Outputs
outputs_of ticket outcome = record (no_outputs ticket) {
  response = outcome.response;
  released = outcome.released;
  sent = map (stamped outcome.state.number ticket outcome.state.current_epoch) outcome.sent;
  promoted = outcome.promoted;
}
