-- What a command changes that is served.
use Rattle.std.specs.Prelude.{ℕ, if◌then◌else◌, [], ◌∷◌, List, is_some}
use Rattle.std.specs.FinMap as fin_map
use Rattle.command_table.specs.Keys.{is_data_write, data_keys}
use Rattle.command_table.specs.declared.command.DataCommand.{DataCommand}
use Rattle.connections.specs.declared.conn.Conn.{Conn}
use Rattle.connections.specs.declared.conn.Connection.{Connection}
use Rattle.node_parts.specs.declared.change.Change.{Change}
use Rattle.node_parts.specs.declared.change.Change.TheVariants.{Asks, Keys}
use Rattle.bus.specs.declared.message.Body.{Body}
use Rattle.keyspace.specs.Commands.{exec}
use Rattle.keyspace.specs.Keyspace.{Keyspace}
use Rattle.keyspace.specs.declared.plans.Plan.{Plan}
use Rattle.node_step.specs.Commands.{command_outcome, decision_on, drained_by_command, executed, served}
use Rattle.node_step.specs.Outcome.{Outcome}
use Rattle.node_step.specs.Requests.{using_up}
use Rattle.node_step.specs.State.{NodeState}
use Rattle.redirect.specs.Decision.{decision}
use Rattle.redirect.specs.declared.asked.Asking.{Asking}
use Rattle.redirect.specs.declared.decision.Decision.{Decision}
use Rattle.slot_store.specs.InSlot.{IsCommittedInSlot}

-- keys of the slot, unless the command only reads
abbrev pub served_change : Conn → ℕ → DataCommand → Change
served_change conn slot command = if is_data_write command then Keys conn slot else Asks conn

-- the plan executes the command, whose keys lie in the slot
abbrev pub Executes : Keyspace → DataCommand → ℕ → Plan → Type 0
Executes keyspace command slot plan = IsCommittedInSlot slot plan keyspace (exec keyspace command).after

-- what is said of the slot, if the command takes its last key
abbrev pub drained_by_executing : NodeState → DataCommand → List (ℕ × Body)
drained_by_executing node command = drained_by_command node (executed node command) (data_keys command)

-- the command is served on a connection, by that decision
abbrev pub served_on : NodeState → Conn → DataCommand → Decision → Outcome
served_on node conn command why = served (using_up node conn) command why

-- it is served there or not, by the decision on it
abbrev pub answer_on : NodeState → Conn → Connection → DataCommand → Outcome
answer_on node conn connection command =
    command_outcome (using_up node conn) connection.numbered command (decision_on node command connection.asking)

-- the decision on a command with this key alone
abbrev pub decision_on_key : NodeState → List ℕ → Asking → Decision
decision_on_key node key asking = decision node.table node.moves node.number (record {
  keys = key ∷ [];
  there = is_some (fin_map.get node.keyspace key) ∷ [];
  asking = asking;
  paused = is_some node.paused;
})
