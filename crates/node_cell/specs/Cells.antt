-- A node as it begins, and its replies and messages that are taken (ours).
use Rattle.std.specs.Prelude.{◌≡◌, ◌∷◌, ℕ, List, []}
use Rattle.bus.specs.declared.message.Message.{Message}
use Rattle.cell_parts.specs.Journal.{CellView, IsGiven}
use Rattle.cell_parts.specs.declared.entry.Entry.{Entry}
use Rattle.cluster_config.specs.Config.{ClusterConfig}
use Rattle.connections.specs.declared.conn.Conn.{Conn}
use Rattle.node_step.specs.Released.{without_reply_to}
use Rattle.node_step.specs.State.{first_state}
use Rattle.resp_values.specs.declared.reply.Reply.{Reply}

-- the node before its first step
abbrev pub first_cell : ClusterConfig → ℕ → CellView
first_cell config node = record { config = config; node = node; state = first_state config node; journal = []; undelivered = []; outbox = [] }

-- a step of the journal gave the reply to the connection
abbrev pub IsReplyGiven : List Entry → Conn → Reply → Type 0
IsReplyGiven journal conn reply = IsGiven journal (record { conn = conn; reply = reply })

-- the node once the first reply that waits for the connection is taken
abbrev pub without_reply : Conn → CellView → CellView
without_reply conn cell = record cell { undelivered = without_reply_to conn cell.undelivered }

-- the first of the messages is for that node
abbrev pub IsFirstTo : List Message → ℕ → Type 0
IsFirstTo messages to = (first : Message) × (rest : List Message) × (messages ≡ first ∷ rest) × (first.to ≡ to)
