-- What a node does with an order that it was given before.
use Rattle.std.specs.Prelude.{◌≡◌, ◌≢◌, ◌<◌, ℕ, ℤ, List, [], map, length, Option, Ok}
use Rattle.bus.specs.declared.message.Message.{Message}
use Rattle.command_table.specs.Table.{command_of}
use Rattle.command_table.specs.declared.command.ClusterCommand.{ClusterCommand}
use Rattle.command_table.specs.declared.command.ClusterCommand.TheVariants.{Migrate, SetSlot}
use Rattle.command_table.specs.declared.command.Command.TheVariants.{Cluster}
use Rattle.command_table.specs.declared.command.SlotOrder.{SlotOrder}
use Rattle.connections.specs.declared.conn.Conn.{Conn}
use Rattle.node_step.specs.State.{NodeState}
use Rattle.node_step.specs.Step.{NodeStep}
use Rattle.node_step.specs.declared.event.Event.TheVariants.{Request}
use Rattle.node_step.specs.declared.outputs.Outputs.{Outputs}
use Rattle.node_step.specs.declared.response.Answer.{Answer}
use Rattle.node_step.specs.declared.response.Response.TheVariants.{Nothing, Replied}

-- a client gives the node this command, in words that are read as it
pub record IsGiven (command : ClusterCommand) (old : NodeState) (outputs : Outputs) (new : NodeState) : Type 0 where
  pub ticket : ℕ
  pub conn : Conn
  pub words : List (List ℕ)
  pub reads : command_of words ≡ Ok (Cluster command)
  pub step : NodeStep ticket old (Request conn words) outputs new

-- the node took it. From a connection that isn't open, or waits for a reply, it takes nothing
abbrev pub IsTaken : Outputs → Type 0
IsTaken outputs = outputs.response ≢ Nothing

-- nothing changed but the connections
abbrev pub KeepsAllButConnections : NodeState → NodeState → Type 0
KeepsAllButConnections old new = new ≡ record old { connections = new.connections }

-- ---- CLUSTER SETSLOT

-- nothing was done beside the reply
pub record IsOnlyAnswered (old new : NodeState) (outputs : Outputs) : Type 0 where
  pub state : KeepsAllButConnections old new
  pub released : outputs.released ≡ []
  pub sent : outputs.sent ≡ []

-- an order that was taken leaves nothing to do for the same order
abbrev pub OrdersMayBeRepeated : Type 0
OrdersMayBeRepeated = (slot : ℕ) (order : SlotOrder) (id : List ℕ) (number : Option ℕ) (old after later new : NodeState) (outputs again : Outputs)
    → IsGiven (SetSlot slot order id number) old outputs after → IsTaken outputs → KeepsAllButConnections after later
    → IsGiven (SetSlot slot order id number) later again new → IsOnlyAnswered later new again

-- and it has the same reply, where the node's table has the slot
abbrev pub RepliesAreRepeated : Type 0
RepliesAreRepeated = (slot : ℕ) (order : SlotOrder) (id : List ℕ) (number : Option ℕ) (old after later new : NodeState) (outputs again : Outputs) (answer repeated : Answer)
    → slot < length old.table
    → IsGiven (SetSlot slot order id number) old outputs after → outputs.response ≡ Replied answer → KeepsAllButConnections after later
    → IsGiven (SetSlot slot order id number) later again new → again.response ≡ Replied repeated → repeated.reply ≡ answer.reply

-- ---- MIGRATE

-- the message, from a step with that ticket
abbrev pub with_ticket : ℕ → Message → Message
with_ticket ticket message = record message { ticket = ticket }

-- the node responds as it did, and only sends what it sent
pub record IsOnlySentAgain (old new : NodeState) (outputs again : Outputs) : Type 0 where
  pub state : KeepsAllButConnections old new
  pub released : again.released ≡ []
  pub response : IsTaken again → again.response ≡ outputs.response
  pub sent : IsTaken again → again.sent ≡ map (with_ticket again.ticket) outputs.sent

-- a copy that was ordered is the one that the same order sends again, also with another time to wait for
abbrev pub CopiesAreSentAgain : Type 0
CopiesAreSentAgain = (host : List ℕ) (port : ℤ) (keys : List (List ℕ)) (timeout other : ℕ) (old after later new : NodeState) (outputs again : Outputs)
    → IsGiven (Migrate host port keys timeout) old outputs after → IsTaken outputs → KeepsAllButConnections after later
    → IsGiven (Migrate host port keys other) later again new → IsOnlySentAgain later new outputs again
