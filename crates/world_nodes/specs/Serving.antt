-- What comes of requests on connections that stay open (ours).
use Rattle.std.specs.Prelude.{◌≡◌, ◌⊎◌, ◌∷◌, ℕ, List, [], Option, Some, None}
use Rattle.command_table.specs.declared.error_line.ErrorLine.TheVariants.{Exhausted}
use Rattle.connections.specs.declared.conn.Conn.{Conn}
use Rattle.node_step.specs.Outcome.{error}
use Rattle.node_step.specs.declared.event.Event.TheVariants.{Open, Request}
use Rattle.node_step.specs.declared.outputs.Outputs.{Outputs}
use Rattle.node_step.specs.declared.response.Response.{Response}
use Rattle.node_step.specs.declared.response.Response.TheVariants.{Nothing, Opened, Replied, Parked}
use Rattle.resp_values.specs.declared.reply.Reply.{Reply}
use Rattle.world_nodes.specs.NodeSteps.{Closes, Makes, Skips, released_conns}
use Rattle.world_nodes.specs.Nodes.{RunView}
use Rattle.world_nodes.specs.Outputs.{beside}
use Rattle.world_nodes.specs.declared.output.Output.{Output}

-- a new connection, or none where a number has no next one
abbrev pub IsOpened : RunView → ℕ → Option Conn → RunView → Type 0
IsOpened old node None new = Skips old node Open new
IsOpened old node (Some conn) new = (outputs : Outputs) × Makes old node Open outputs new × (outputs.response ≡ Opened conn)

-- the reply that comes on the connection of the request
abbrev pub reply_in : Response → Option Reply
reply_in (Replied answer) = Some answer.reply
reply_in Nothing = None
reply_in (Opened conn) = None
reply_in Parked = None

-- the node makes a step for the request
pub record IsServed (old : RunView) (node : ℕ) (conn : Conn) (words : List (List ℕ)) (reply : Option Reply) (outputs : List Output) (new : RunView) : Type 0 where
  pub made : Outputs
  pub after : RunView
  pub makes : Makes old node (Request conn words) made after
  pub closes : Closes after node (released_conns made.released) new
  pub replies : reply ≡ reply_in made.response
  pub shows : outputs ≡ beside node old.sent made

-- or says that a number has no next one
pub record IsSkipped (old : RunView) (node : ℕ) (conn : Conn) (words : List (List ℕ)) (reply : Option Reply) (outputs : List Output) (new : RunView) : Type 0 where
  pub skips : Skips old node (Request conn words) new
  pub replies : reply ≡ Some (error Exhausted)
  pub shows : outputs ≡ []

abbrev pub Serves : RunView → ℕ → Conn → List (List ℕ) → Option Reply → List Output → RunView → Type 0
Serves old node conn words reply outputs new = IsServed old node conn words reply outputs new ⊎ IsSkipped old node conn words reply outputs new

-- a request on a connection that was cut reaches its node, which then finds the connection closed
pub record ServesLast (old : RunView) (node : ℕ) (conn : Conn) (words : List (List ℕ)) (outputs : List Output) (new : RunView) : Type 0 where
  pub reply : Option Reply
  pub run : RunView
  pub serves : Serves old node conn words reply outputs run
  pub closes : Closes run node (conn ∷ []) new
