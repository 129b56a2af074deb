-- Answers of the parts of a node are answers of the whole node.
use Rattle.std.proofs.Common.{◌≡◌, ℕ, true, false, ◌&&◌, List, [], Option, Some, None, ℤ, refl, sym, ap, subst, ◌∙◌, Bool}
use Rattle.std.specs.List.{position}
use Rattle.std.specs.Str.{bytes_eq}
use Rattle.cluster_config.specs.declared.config.NodeConfig.{NodeConfig}
use Rattle.std.specs.Prelude.{MatchBool, Result, Ok, Err, is_none, is_some}
use Rattle.resp_values.specs.declared.reply.Reply.{Reply}
use Rattle.command_table.specs.Keys.{is_data_write}
use Rattle.command_table.specs.Table.{command_of}
use Rattle.resp_values.specs.Request.{IsRequest}
use Rattle.command_table.specs.declared.command.Command.{Command}
use Rattle.command_table.specs.declared.command.ClusterCommand.{ClusterCommand}
use Rattle.command_table.specs.declared.command.ClusterCommand.TheVariants.{KeySlot, MyId, Slots, CountKeysInSlot, GetKeysInSlot, SlotState, SetSlot, Numbered, Failover, Asking, Migrate}
use Rattle.command_table.specs.ErrorLine.{line_of}
use Rattle.command_table.specs.declared.command.Command.TheVariants.{Cluster, Data}
use Rattle.command_table.specs.declared.command.DataCommand.{DataCommand}
use Rattle.command_table.specs.declared.fault.CommandFault.{CommandFault}
use Rattle.command_table.specs.declared.command.SlotOrder.{SlotOrder}
use Rattle.command_table.specs.declared.command.SlotOrder.TheVariants.{Importing, Migrating, Node}
use Rattle.connections.specs.Connections.{Closes, ConnectionTable, Opens, connection_at, may_ask}
use Rattle.connections.specs.declared.conn.Conn.{Conn}
use Rattle.connections.specs.declared.conn.Connection.{Connection}
use Rattle.connections.specs.declared.conn.Wait.{Wait}
use Rattle.key_slot.specs.Slot.{hash_slot}
use Rattle.redirect.specs.declared.asked.Asking.{Asking as AskingFor}
use Rattle.node_step.specs.Outcome.{Outcome, no_outputs, outputs_of, replied, silent}
use Rattle.node_step.specs.Commands.{command_outcome, decision_on}
use Rattle.node_step.specs.Copies.{copy_outcome, copy_verdict_on, first_slot, is_at, those_there}
use Rattle.node_step.specs.Handovers.{failover}
use Rattle.node_step.specs.Orders.{done}
use Rattle.node_step.specs.Outcome.{error}
use Rattle.node_step.specs.Numbers.{has_offset}
use Rattle.node_step.specs.Requests.{asking_for, asking_of, at_connection, has_copy_number, has_number, has_order_number, is_numbered, node_with_id, request_outcome, using_up, with_numbers}
use Rattle.node_step.specs.State.{NodeState, own_master}
use Rattle.node_step.specs.Step.{MayCome, NodeStep, written}
use Rattle.node_step.specs.Streams.{Requests, is_written, written_by_request}
use Rattle.node_step.specs.declared.event.Event.TheVariants.{Close, Open, Request}
use Rattle.node_step.specs.declared.outputs.Outputs.{Outputs}
use Rattle.node_step.specs.declared.response.Response.{Response}
use Rattle.node_step.specs.declared.response.Response.TheVariants.{Opened}
use Rattle.node_step.specs.declared.response.Why.TheVariants.{NotACommand, Reported, Told}
use Rattle.node_core.specs.Comes.{AnswersAndWrites, AnswersSo}
use Rattle.node_parts.proofs.ChangeLemmas.{records_nothing}
use Rattle.node_parts.specs.Drafts.{Drafts, IsDraftOf, Records}
use Rattle.node_parts.specs.declared.draft.Draft.{Draft}
use Rattle.order_rows.specs.Orders.{Obeys}
use Rattle.report_rows.specs.Questions.{IsReport, is_question}

-- the reply to a question is the report that was made
module _ (old : NodeState) (conn : Conn) (reply : Reply) (draft : Draft) (drafts : Drafts old (replied (using_up old conn) Reported reply) draft) where
  same : (other : Reply) → reply ≡ other → Drafts old (replied (using_up old conn) Reported other) draft
  same other is = subst (λ r. Drafts old (replied (using_up old conn) Reported r) draft) is drafts

  pub question_answered : (question : ClusterCommand) → is_question question ≡ true → IsReport old question reply → AnswersSo old conn (Ok (Cluster question)) draft
  question_answered (KeySlot key) asks is = record { number = refl; drafts = same _ is }
  question_answered MyId asks is = record { number = refl; drafts = same _ is }
  question_answered Slots asks is = record { number = refl; drafts = same _ is }
  question_answered (CountKeysInSlot slot) asks is = record { number = refl; drafts = same _ is }
  question_answered (GetKeysInSlot slot count) asks is = record { number = refl; drafts = same _ is }
  question_answered (SlotState slot) asks is = record { number = refl; drafts = same _ is }
  question_answered (SetSlot slot order target number) asks is = absurd is
  question_answered Numbered asks is = absurd is
  question_answered Failover asks is = absurd is
  question_answered (Asking number) asks is = absurd is
  question_answered (Migrate host port keys timeout) asks is = absurd is

-- SETSLOT is answered as its order is obeyed
pub order_answered : (old : NodeState) (conn : Conn) (slot : ℕ) (order : SlotOrder) (id : List ℕ) (target number : Option ℕ) (nodes : List NodeConfig) (draft : Draft)
    → nodes ≡ old.config.nodes → target ≡ position (λ (other : NodeConfig). bytes_eq other.id id) nodes → Obeys old conn slot order target number draft → AnswersSo old conn (Ok (Cluster (SetSlot slot order id number))) draft
order_answered old conn slot order id target number nodes draft are is obeys =
    let found : Obeys old conn slot order (node_with_id old id) number draft =
    subst (λ other. Obeys old conn slot order other number draft) (is ∙ ap (position (λ (other : NodeConfig). bytes_eq other.id id)) are) obeys in
    record { number = found.has_number; drafts = found.drafts }

-- where it needs an epoch that is not there, so does the command
pub order_exhausted : (old : NodeState) (conn : Conn) (slot : ℕ) (order : SlotOrder) (id : List ℕ) (target number : Option ℕ) (nodes : List NodeConfig)
    → nodes ≡ old.config.nodes → target ≡ position (λ (other : NodeConfig). bytes_eq other.id id) nodes → has_order_number old slot order target number ≡ false → has_number (using_up old conn) (Ok (Cluster (SetSlot slot order id number))) ≡ false
order_exhausted old conn slot order id target number nodes are is exhausted = number_of order (rw (sym are, sym is) exhausted)
  where
    number_of : (kind : SlotOrder) → has_order_number old slot kind (node_with_id old id) number ≡ false → has_order_number (using_up old conn) slot kind (node_with_id old id) number ≡ false
    number_of Importing e = e
    number_of Migrating e = e
    number_of Node e = e

-- CLUSTER FAILOVER
pub failover_answered : (old : NodeState) (conn : Conn) (draft : Draft) → Drafts old (failover (using_up old conn) (own_master old)) draft → AnswersSo old conn (Ok (Cluster Failover)) draft
failover_answered old conn draft drafts = record { number = refl; drafts = drafts }

-- CLUSTER NUMBERED and ASKING
pub numbered_answered : (old : NodeState) (conn : Conn) (draft : Draft)
    → Drafts old (replied (with_numbers (using_up old conn) conn) Told done) draft → AnswersSo old conn (Ok (Cluster Numbered)) draft
numbered_answered old conn draft drafts = record { number = refl; drafts = drafts }

pub asking_answered : (old : NodeState) (conn : Conn) (number : Option ℕ) (asking : AskingFor) (draft : Draft) → asking ≡ asking_for number
    → Drafts old (replied (at_connection (using_up old conn) conn (λ (connection : Connection). record connection { asking = asking })) Told done) draft
    → AnswersSo old conn (Ok (Cluster (Asking number))) draft
asking_answered old conn number asking draft is drafts = record { number = refl; drafts = rw (sym is) drafts }

-- MIGRATE
pub migration_answered : (old : NodeState) (conn : Conn) (host : List ℕ) (port : ℤ) (keys : List (List ℕ)) (ticks : ℕ) (target : Option ℕ) (nodes : List NodeConfig) (draft : Draft)
    → nodes ≡ old.config.nodes → target ≡ position (is_at host port) nodes → has_copy_number (copy_verdict_on old keys target) ≡ true
    → Drafts old (copy_outcome (using_up old conn) conn (first_slot keys) (those_there old.keyspace keys) ticks (copy_verdict_on old keys target)) draft
    → AnswersSo old conn (Ok (Cluster (Migrate host port keys ticks))) draft
migration_answered old conn host port keys ticks target nodes draft are is number drafts =
    let found : target ≡ position (is_at host port) old.config.nodes = is ∙ ap (position (is_at host port)) are in
    record {
      number = subst (λ other. has_copy_number (copy_verdict_on old keys other) ≡ true) found number;
      drafts = subst (λ other. Drafts old (copy_outcome (using_up old conn) conn (first_slot keys) (those_there old.keyspace keys) ticks (copy_verdict_on old keys other)) draft) found drafts;
    }

pub migration_exhausted : (old : NodeState) (conn : Conn) (host : List ℕ) (port : ℤ) (keys : List (List ℕ)) (ticks : ℕ) (target : Option ℕ) (nodes : List NodeConfig)
    → nodes ≡ old.config.nodes → target ≡ position (is_at host port) nodes → has_copy_number (copy_verdict_on old keys target) ≡ false
    → has_number (using_up old conn) (Ok (Cluster (Migrate host port keys ticks))) ≡ false
migration_exhausted old conn host port keys ticks target nodes are is exhausted = rw (sym are, sym is) exhausted

-- a command on keys
pub data_answered : (old : NodeState) (conn : Conn) (connection : Connection) (command : DataCommand) (draft : Draft)
    → connection_at old.connections conn ≡ Some connection
    → Drafts old (command_outcome (using_up old conn) connection.numbered command (decision_on old command connection.asking)) draft
    → AnswersSo old conn (Ok (Data command)) draft
data_answered old conn connection command draft is drafts = record {
  number = refl;
  drafts = subst (λ found. Drafts old (command_outcome (using_up old conn) (is_numbered found) command (decision_on old command (asking_of found))) draft) (sym is) drafts;
}

-- words that are not a command
pub fault_answered : (old : NodeState) (conn : Conn) (fault : CommandFault) (reply : Reply) (draft : Draft) → reply ≡ error (line_of fault)
    → Drafts old (replied (using_up old conn) (NotACommand fault) reply) draft → AnswersSo old conn (Err fault) draft
fault_answered old conn fault reply draft is drafts = record { number = refl; drafts = rw (sym is) drafts }

-- what its words write goes by the reply that was drafted
same_written : (old : NodeState) (conn : Conn) (words : List (List ℕ)) (before : Draft) → AnswersSo old conn (command_of words) before
    → written_by_request words (command_of words) before.response ≡ written old conn words
same_written old conn words before answers = ap (λ (response : Response). written_by_request words (command_of words) response) answers.drafts.response

-- an answer, and what is written by its words
pub answered_and_written : (old : NodeState) (conn : Conn) (words : List (List ℕ)) (is_write : Bool) (before draft : Draft)
    → IsRequest words → is_write ≡ is_written (command_of words) → AnswersSo old conn (command_of words) before
    → ((outcome : Outcome) (command : Result Command CommandFault) → is_write ≡ is_written command → Drafts old outcome before
    → Records old outcome (written_by_request words command before.response) draft)
    → AnswersAndWrites old conn words draft
answered_and_written old conn words is_write before draft request is answers records =
    record {
      request = request;
      number = answers.number;
      records = subst (λ (requests : Requests). Records old (request_outcome old conn (command_of words)) requests draft) (same_written old conn words before answers)
          (records (request_outcome old conn (command_of words)) (command_of words) is answers.drafts);
    }

pub no_offset_written : (old : NodeState) (conn : Conn) (words : List (List ℕ)) (before : Draft) → AnswersSo old conn (command_of words) before
    → has_offset old (written_by_request words (command_of words) before.response) ≡ false → has_offset old (written old conn words) ≡ false
no_offset_written old conn words before answers past =
    ap (λ (requests : Requests). has_offset old requests) (sym (same_written old conn words before answers)) ∙ past

-- which words are a write
pub data_written : (read : Result Command CommandFault) (command : DataCommand) (is_write : Bool) → read ≡ Ok (Data command) → is_write ≡ is_data_write command → is_write ≡ is_written read
data_written read command is_write is same = same ∙ sym (ap is_written is)

pub cluster_not_written : (read : Result Command CommandFault) (command : ClusterCommand) → read ≡ Ok (Cluster command) → false ≡ is_written read
cluster_not_written read command is = sym (ap is_written is)

pub fault_not_written : (read : Result Command CommandFault) (fault : CommandFault) → read ≡ Err fault → false ≡ is_written read
fault_not_written read fault is = sym (ap is_written is)

-- a number that is missing, or an offset
pub no_number : (number offset : Bool) → number ≡ false → (number && offset) ≡ false
no_number number offset is = ap (λ b. b && offset) is

pub no_offset : (number offset : Bool) → offset ≡ false → (number && offset) ≡ false
no_offset true offset is = is
no_offset false offset is = refl

-- both are drafted
pub answer_is_drafted : (old : NodeState) (conn : Conn) (words : List (List ℕ)) (draft : Draft)
    → may_ask (connection_at old.connections conn) ≡ true → AnswersAndWrites old conn words draft → IsDraftOf old (MayCome old (Request conn words)) draft
answer_is_drafted old conn words draft asks answers = record {
  outcome = request_outcome old conn (command_of words);
  requests = written old conn words;
  may_come = λ dropped within. rw asks record { request = answers.request; number = answers.number; dropped = dropped; may_drop = within; comes_to = refl };
  records = answers.records;
}

-- a request that is not taken changes nothing
pub untaken_is_drafted : (old : NodeState) (conn : Conn) (words : List (List ℕ)) (draft : Draft)
    → may_ask (connection_at old.connections conn) ≡ false → Drafts old (silent old) draft → IsDraftOf old (MayCome old (Request conn words)) draft
untaken_is_drafted old conn words draft asks drafts = record {
  outcome = silent old;
  requests = [];
  may_come = λ dropped within. rw asks refl;
  records = records_nothing old (silent old) draft drafts;
}

-- since its connection isn't open
pub unopened_is_drafted : (old : NodeState) (conn : Conn) (words : List (List ℕ)) (draft : Draft)
    → connection_at old.connections conn ≡ None → Drafts old (silent old) draft → IsDraftOf old (MayCome old (Request conn words)) draft
unopened_is_drafted old conn words draft unopened drafts = untaken_is_drafted old conn words draft (ap may_ask unopened) drafts

-- or waits for a reply
pub parked_is_drafted : (old : NodeState) (conn : Conn) (connection : Connection) (wait : Wait) (words : List (List ℕ)) (draft : Draft)
    → connection_at old.connections conn ≡ Some connection → connection.waits ≡ Some wait → Drafts old (silent old) draft → IsDraftOf old (MayCome old (Request conn words)) draft
parked_is_drafted old conn connection wait words draft open_there waits drafts =
    untaken_is_drafted old conn words draft (ap may_ask open_there ∙ ap is_none waits) drafts

-- a connection was opened
pub opening_is_step : (ticket : ℕ) (old : NodeState) (connections : ConnectionTable) (conn : Conn) (outputs : Outputs) (new : NodeState)
    → Opens old.connections connections conn → outputs ≡ record (no_outputs ticket) { response = Opened conn } → new ≡ record old { connections = connections }
    → NodeStep ticket old Open outputs new
opening_is_step ticket old connections conn outputs new opens are state = record {
  outcome = record (silent (record old { connections = connections })) { response = Opened conn };
  may_come = record { conn = conn; opens = opens; comes_to = refl };
  outputs_are = are;
  state = state;
}

-- a connection was closed, if it was open
module _ (ticket : ℕ) (old : NodeState) (connections : ConnectionTable) (conn : Conn) (outputs : Outputs) (new : NodeState)
    (are : outputs ≡ outputs_of ticket (silent old)) (state : new ≡ record old { connections = connections }) where
  closing : (was_open : Bool) → is_some (connection_at old.connections conn) ≡ was_open → MatchBool was_open (Closes old.connections connections conn) (connections ≡ old.connections)
      → NodeStep ticket old (Close conn) outputs new
  closing true opened closes = record {
    outcome = silent (record old { connections = connections });
    may_come = rw opened record { closes = closes; comes_to = refl };
    outputs_are = are;
    state = state;
  }
  closing false opened same = record {
    outcome = silent old;
    may_come = rw opened refl;
    outputs_are = are;
    state = state ∙ ap (λ c. record old { connections = c }) same;
  }

  pub closing_is_step : (was_open : Bool) → was_open ≡ is_some (connection_at old.connections conn) → MatchBool was_open (Closes old.connections connections conn) (connections ≡ old.connections)
      → NodeStep ticket old (Close conn) outputs new
  closing_is_step was_open opened closes = closing was_open (sym opened) closes
