-- What comes of a command that a node is given.
use Rattle.std.proofs.Common.{◌≡◌, ◌&&◌, ℕ, Bool, true, false, cond, not, List, [], ◌∷◌, refl, ap, ◌∙◌}
use Rattle.std.specs.Prelude.{MatchBool, Result, Ok}
use Rattle.command_table.specs.Table.{command_of}
use Rattle.command_table.specs.declared.command.ClusterCommand.{ClusterCommand}
use Rattle.command_table.specs.declared.command.Command.{Command}
use Rattle.command_table.specs.declared.command.Command.TheVariants.{Cluster}
use Rattle.command_table.specs.declared.fault.CommandFault.{CommandFault}
use Rattle.connections.specs.Connections.{connection_at, may_ask}
use Rattle.connections.specs.declared.conn.Conn.{Conn}
use Rattle.node_step.specs.Outcome.{Outcome, silent}
use Rattle.node_step.specs.Requests.{cluster_outcome, request_outcome, using_up}
use Rattle.node_step.specs.State.{NodeState}
use Rattle.node_step.specs.Streams.{Requests, is_error, is_executed, with_written, written_by_request}
use Rattle.node_step.specs.declared.response.Response.{Response}
use Rattle.node_step.specs.declared.response.Response.TheVariants.{Nothing, Opened, Replied, Parked}
use Rattle.node_step.specs.Step.{IsAnswering}
use Rattle.node_step.specs.declared.outputs.Outputs.{Outputs}
use Rattle.repeated_orders.specs.Law.{IsGiven}

-- the node takes the command, or ignores it
pub data Came (command : ClusterCommand) (node : NodeState) (conn : Conn) (outcome : Outcome) : Type 0 where
  took : outcome ≡ cluster_outcome (using_up node conn) conn command → Came command node conn outcome
  ignored : outcome ≡ silent node → Came command node conn outcome

-- a command about the cluster writes nothing
not_both : (b c : Bool) (requests : Requests) → cond (b && false && c) requests [] ≡ []
not_both true c requests = refl
not_both false c requests = refl

nothing_written : (command : ClusterCommand) (words : List (List ℕ)) (response : Response) → written_by_request words (Ok (Cluster command)) response ≡ []
nothing_written command words (Replied answer) = not_both (is_executed answer.why) (not (is_error answer.reply)) (words ∷ [])
nothing_written command words Nothing = refl
nothing_written command words (Opened conn) = refl
nothing_written command words Parked = refl

by_asking : (command : ClusterCommand) (node : NodeState) (conn : Conn) (words : List (List ℕ)) (outcome : Outcome) (asks : Bool) → command_of words ≡ Ok (Cluster command)
    → MatchBool asks (IsAnswering node conn words outcome) (outcome ≡ silent node) → Came command node conn outcome
by_asking command node conn words outcome true reads may =
    let asked : Outcome = request_outcome node conn (command_of words) in
    Came.took (may.comes_to
    ∙ ap (λ (requests : Requests). with_written asked requests may.dropped) (ap (λ (r : Result Command CommandFault). written_by_request words r asked.response) reads ∙ nothing_written command words asked.response)
    ∙ ap (λ (r : Result Command CommandFault). request_outcome node conn r) reads)
by_asking command node conn words outcome false reads may = Came.ignored may

pub came : (command : ClusterCommand) (old : NodeState) (outputs : Outputs) (new : NodeState) (given : IsGiven command old outputs new) → Came command old given.conn given.step.outcome
came command old outputs new given =
    by_asking command old given.conn given.words given.step.outcome (may_ask (connection_at old.connections given.conn)) given.reads given.step.may_come
