-- What a step of a node leaves of its table, if the node isn't promoted by it.
use Rattle.std.proofs.Common.{◌≡◌, ◌≢◌, ◌==◌, ◌&&◌, ℕ, List, Bool, true, false, cond, Option, Some, None, refl, sym, ap, subst, ◌∙◌}
use Rattle.std.proofs.lemmas.Bool.{eqb-false}
use Rattle.std.specs.Prelude.{MatchBool, Result, Ok, Err, is_some, slice_set}
use Rattle.bus.specs.Stream.{is_same}
use Rattle.bus.specs.declared.message.Body.{Body}
use Rattle.bus.specs.declared.bodies.ElectionBody.TheVariants as of_election
use Rattle.bus.specs.declared.bodies.SlotsBody.TheVariants as of_slots
use Rattle.bus.specs.declared.bodies.StreamBody.TheVariants as of_stream
use Rattle.bus.specs.declared.message.Body.TheVariants as body
use Rattle.bus.specs.declared.bodies.Handing.{Handing}
use Rattle.bus.specs.declared.message.Message.{Message}
use Rattle.bus.specs.declared.bodies.Replaced.{Replaced}
use Rattle.command_table.specs.Table.{command_of}
use Rattle.command_table.specs.declared.command.ClusterCommand.{ClusterCommand}
use Rattle.command_table.specs.declared.command.ClusterCommand.TheVariants as cluster
use Rattle.command_table.specs.declared.command.Command.{Command}
use Rattle.command_table.specs.declared.command.Command.TheVariants.{Data, Cluster}
use Rattle.command_table.specs.declared.command.DataCommand.{DataCommand}
use Rattle.command_table.specs.declared.command.SlotOrder.{SlotOrder}
use Rattle.command_table.specs.declared.command.SlotOrder.TheVariants.{Importing, Migrating, Node}
use Rattle.command_table.specs.declared.fault.CommandFault.{CommandFault}
use Rattle.connections.specs.Connections.{connection_at, may_ask}
use Rattle.connections.specs.declared.conn.Conn.{Conn}
use Rattle.connections.specs.declared.conn.Connection.{Connection}
use Rattle.election.specs.Electing.{counted, elected}
use Rattle.election.specs.Health.{Candidate}
use Rattle.election.specs.declared.running.Elected.{Elected}
use Rattle.migrate.specs.Acknowledging.{acknowledged_keys}
use Rattle.migrate.specs.declared.sending.CopyVerdict.{CopyVerdict}
use Rattle.migrate.specs.declared.sending.CopyVerdict.TheVariants as copies
use Rattle.redirect.specs.declared.decision.Decision.{Decision}
use Rattle.redirect.specs.declared.decision.Decision.TheVariants.{Serve, ServeImport, CrossSlot, Down, TryAgain, Ask, Moved}
use Rattle.slot_state.specs.Moves.{move_of}
use Rattle.slot_state.specs.declared.ending.NodeVerdict.{NodeVerdict}
use Rattle.slot_state.specs.declared.ending.NodeVerdict.TheVariants as ending
use Rattle.slot_state.specs.declared.copy_id.CopyId.{CopyId}
use Rattle.slot_table.specs.Claims.{merged}
use Rattle.slot_table.specs.declared.runs.Run.{Run}
use Rattle.node_step.proofs.Kept.{pieced_keeps, with_written_keeps, restored_keeps, synced_is}
use Rattle.node_step.proofs.Ready.{in_election_keeps, ready_keeps}
use Rattle.node_step.proofs.WithWritten.{with_written_promoted}
use Rattle.node_step.specs.Claiming.{claimed_by}
use Rattle.node_step.specs.Commands.{command_outcome, decision_on}
use Rattle.node_step.specs.Copies.{acknowledged, copy_outcome, copy_verdict_on, first_slot, node_at, those_there}
use Rattle.node_step.specs.Failing.{a_tick_older, members_of}
use Rattle.node_step.specs.Handovers.{failover, handing_over, is_at_end, may_pause, noting}
use Rattle.node_step.specs.Messages.{Choice, ready, taken, taken_so, written_by_message}
use Rattle.node_step.specs.Orders.{ending_outcome, ending_verdict}
use Rattle.node_step.specs.Outcome.{Outcome, silent}
use Rattle.node_step.specs.Promotion.{handed_promotion, promotion, promotion_to, table_handed}
use Rattle.node_step.specs.Requests.{asking_of, by_command, cluster_outcome, is_numbered, node_with_id, order_outcome, request_outcome, using_up}
use Rattle.node_step.specs.State.{NodeState, is_replica, own_master, standing}
use Rattle.node_step.specs.Step.{IsAnswering, IsClosing, MayCome, written as written_at}
use Rattle.node_step.specs.Streams.{Requests, with_written}
use Rattle.node_step.specs.Ticks.{older}
use Rattle.node_step.specs.Voting.{due_epoch, if_elected}
use Rattle.node_step.specs.declared.event.Event.{Event}
use Rattle.node_step.specs.declared.event.Event.TheVariants.{Open, Close, Request, Deliver, Tick}
use Rattle.single_keyspace.proofs.Seen.{no_some}
use Rattle.single_keyspace.proofs.Verdicts.{import_ends}

-- it is as it was; an import ended, and its slot is the node's own in its epoch; or a claim was merged
pub data TableIs (event : Event) (old new : NodeState) : Type 0 where
  same : new.table ≡ old.table → TableIs event old new
  ends : (slot : ℕ) → (move_of old.moves slot ≡ None → ⊥) → new.table ≡ slice_set old.table slot (Some (record { epoch = new.current_epoch; owner = old.number })) → TableIs event old new
  learns : (message : Message) (runs : List (Run ℕ)) (replaced : Option Replaced) → event ≡ Deliver message → message.body ≡ body.Slots (of_slots.Claim runs replaced) → message.from ≢ old.number
      → new.table ≡ merged old.table runs message.from → TableIs event old new

-- ---- requests

module _ (event : Event) (node : NodeState) where
  abbrev By : Outcome → Type 0
  By outcome = TableIs event node outcome.state

  command_table : (numbered : Bool) (which : DataCommand) (why : Decision) → By (command_outcome node numbered which why)
  command_table numbered which Serve = same refl
  command_table numbered which (ServeImport number) = same refl
  command_table numbered which CrossSlot = same refl
  command_table numbered which Down = same refl
  command_table numbered which (TryAgain reason) = same refl
  command_table numbered which (Ask slot to number) = same refl
  command_table numbered which (Moved slot to) = same refl

  ending_table : (slot : ℕ) (other asked : Option ℕ) (verdict : NodeVerdict) → ending_verdict node slot other asked ≡ verdict → By (ending_outcome node slot verdict)
  ending_table slot other asked (ending.Ends drained) is =
      let facts = import_ends (standing node slot) (move_of node.moves slot) other asked drained is in
      ends slot (λ none. no_some none facts.3) refl
  ending_table slot other asked ending.UnknownNode is = same refl
  ending_table slot other asked ending.OldMove is = same refl
  ending_table slot other asked ending.NotDrained is = same refl
  ending_table slot other asked ending.IsOwner is = same refl
  ending_table slot other asked ending.NotYetOwner is = same refl

  order_table : (slot : ℕ) (order : SlotOrder) (other number : Option ℕ) → By (order_outcome node slot order other number)
  order_table slot Importing other number = same refl
  order_table slot Migrating other number = same refl
  order_table slot Node other number = ending_table slot other number (ending_verdict node slot other number) refl

  copy_table : (conn : Conn) (slot : ℕ) (keys : List (List ℕ)) (ticks : ℕ) (verdict : CopyVerdict) → By (copy_outcome node conn slot keys ticks verdict)
  copy_table conn slot keys ticks copies.CrossSlot = same refl
  copy_table conn slot keys ticks copies.WrongTarget = same refl
  copy_table conn slot keys ticks copies.NoKey = same refl
  copy_table conn slot keys ticks copies.CopyOutstanding = same refl
  copy_table conn slot keys ticks copies.Exhausted = same refl
  copy_table conn slot keys ticks (copies.SendAgain to number copy) = same refl
  copy_table conn slot keys ticks (copies.Copies to number copy) = same refl

  failover_table : (master : Option ℕ) → By (failover node master)
  failover_table None = same refl
  failover_table (Some master) = same refl

  cluster_table : (conn : Conn) (which : ClusterCommand) → By (cluster_outcome node conn which)
  cluster_table conn (cluster.KeySlot key) = same refl
  cluster_table conn cluster.MyId = same refl
  cluster_table conn cluster.Slots = same refl
  cluster_table conn (cluster.CountKeysInSlot slot) = same refl
  cluster_table conn (cluster.GetKeysInSlot slot count) = same refl
  cluster_table conn (cluster.SlotState slot) = same refl
  cluster_table conn (cluster.SetSlot slot order id number) = order_table slot order (node_with_id node id) number
  cluster_table conn cluster.Numbered = same refl
  cluster_table conn cluster.Failover = failover_table (own_master node)
  cluster_table conn (cluster.Asking number) = same refl
  cluster_table conn (cluster.Migrate host port keys timeout) = copy_table conn (first_slot keys) (those_there node.keyspace keys) timeout (copy_verdict_on node keys (node_at node host port))

  words_table : (conn : Conn) (connection : Option Connection) (command : Result Command CommandFault) → By (by_command node conn connection command)
  words_table conn connection (Err fault) = same refl
  words_table conn connection (Ok (Cluster which)) = cluster_table conn which
  words_table conn connection (Ok (Data which)) = command_table (is_numbered connection) which (decision_on node which (asking_of connection))

  with_written_table : (outcome : Outcome) (requests : Requests) (dropped : ℕ) → By outcome → By (with_written outcome requests dropped)
  with_written_table outcome requests dropped (same is) = same (with_written_keeps (λ s. s.table ≡ node.table) outcome requests dropped (λ stream. is))
  with_written_table outcome requests dropped (ends slot moving is) =
      ends slot moving (with_written_keeps (λ s. s.table ≡ slice_set node.table slot (Some (record { epoch = s.current_epoch; owner = node.number }))) outcome requests dropped (λ stream. is))
  with_written_table outcome requests dropped (learns message runs replaced is says apart table) =
      learns message runs replaced is says apart (with_written_keeps (λ s. s.table ≡ merged node.table runs message.from) outcome requests dropped (λ stream. table))

-- ---- messages

module _ (message : Message) (node : NodeState) where
  abbrev ByMessage : Outcome → Type 0
  ByMessage outcome = TableIs (Deliver message) node outcome.state

  grant_table : (candidate : Candidate) (won : Option Elected) → (if_elected (record node { candidate = candidate }) won).promoted ≡ None → ByMessage (if_elected (record node { candidate = candidate }) won)
  grant_table candidate None not_now = same refl
  grant_table candidate (Some won) not_now = by_plan candidate.planned not_now
    where
      failed : (master : Option ℕ) → (promotion (record node { candidate = candidate }) won.epoch master).promoted ≡ None → ByMessage (promotion (record node { candidate = candidate }) won.epoch master)
      failed None not_now = same refl
      failed (Some master) not_now = absurd (no_some not_now refl)

      handed : (master : Option ℕ) (told : Option Handing) → (handed_promotion (record node { candidate = candidate }) won.epoch master told).promoted ≡ None → ByMessage (handed_promotion (record node { candidate = candidate }) won.epoch master told)
      handed None told not_now = same refl
      handed (Some master) None not_now = same refl
      handed (Some master) (Some handing) not_now = by_place (is_at_end node.stream (Some handing)) not_now
        where
          by_place : (b : Bool) → (cond b (promotion_to (record node { candidate = candidate }) master won.epoch true (table_handed node handing.slots won.epoch)) (silent (record node { candidate = candidate }))).promoted ≡ None
              → ByMessage (cond b (promotion_to (record node { candidate = candidate }) master won.epoch true (table_handed node handing.slots won.epoch)) (silent (record node { candidate = candidate })))
          by_place true not_now = absurd (no_some not_now refl)
          by_place false not_now = same refl

      by_plan : (planned : Bool) → (cond planned (handed_promotion (record node { candidate = candidate }) won.epoch (own_master node) node.handover.note) (promotion (record node { candidate = candidate }) won.epoch (own_master node))).promoted ≡ None
          → ByMessage (cond planned (handed_promotion (record node { candidate = candidate }) won.epoch (own_master node) node.handover.note) (promotion (record node { candidate = candidate }) won.epoch (own_master node)))
      by_plan true not_now = handed (own_master node) node.handover.note not_now
      by_plan false not_now = failed (own_master node) not_now

  acknowledged_table : (id : CopyId) (keys : Option (List (List ℕ))) → ByMessage (acknowledged node id keys)
  acknowledged_table id None = same refl
  acknowledged_table id (Some keys) = same refl

  claim_table : (runs : List (Run ℕ)) (replaced : Option Replaced) → message.body ≡ body.Slots (of_slots.Claim runs replaced) → (own : Bool) → (message.from == node.number) ≡ own
      → ByMessage (cond own (silent node) (claimed_by node (merged node.table runs message.from)))
  claim_table runs replaced is true own = same refl
  claim_table runs replaced is false other = learns message runs replaced refl is (eqb-false message.from node.number other) refl

  pause_table : (from : ℕ) (b : Bool) → ByMessage (cond b (handing_over node from) (silent node))
  pause_table from true = same refl
  pause_table from false = same refl

  noting_table : (handing : Handing) (b : Bool) → ByMessage (silent (cond b (record node { handover = noting node.handover handing }) node))
  noting_table handing true = same refl
  noting_table handing false = same refl

  row_table : (choice : Choice) (said : Body) → message.body ≡ said → (taken_so node message.from choice said).promoted ≡ None → ByMessage (taken_so node message.from choice said)
  row_table choice (body.Slots (of_slots.Copy id pairs)) is not_now = same refl
  row_table choice (body.Slots (of_slots.Ack id)) is not_now = acknowledged_table id (acknowledged_keys (move_of node.moves id.slot) message.from id.number id.copy)
  row_table choice (body.Slots (of_slots.Drained slot number epoch)) is not_now = same refl
  row_table choice (body.Slots (of_slots.Claim runs replaced)) is not_now = claim_table runs replaced is (message.from == node.number) refl
  row_table choice (body.Report suspects) is not_now = same refl
  row_table choice (body.Election (of_election.Candidacy request)) is not_now = same refl
  row_table choice (body.Election (of_election.Grant epoch)) is not_now = grant_table (counted node.candidate (members_of node) message.from epoch) (elected node.candidate (members_of node) message.from epoch) not_now
  row_table choice (body.Stream (of_stream.Sync sync)) is not_now = synced_is ByMessage node message.from sync (same refl) (same refl)
  row_table choice (body.Stream (of_stream.Piece piece)) is not_now = same (pieced_keeps (λ s. s.table ≡ node.table) node (λ stream keyspace. refl) message.from piece choice.follower)
  row_table choice (body.Stream (of_stream.Snapshot snapshot)) is not_now = same (restored_keeps (λ s. s.table ≡ node.table) node (λ stream keyspace. refl) message.from snapshot)
  row_table choice (body.Election (of_election.Pause stream)) is not_now = pause_table message.from (may_pause node message.from stream)
  row_table choice (body.Election (of_election.Paused handing)) is not_now = noting_table handing (is_replica node && is_same handing.stream node.stream.held.id)

  taken_table : (choice : Choice) → (taken node message.from choice message.body).promoted ≡ None → ByMessage (taken node message.from choice message.body)
  taken_table choice not_now =
      let outcome : Outcome = taken_so node message.from choice message.body in
      let requests : Requests = written_by_message node message.from message.body in
      with_written_table (Deliver message) node outcome requests choice.dropped (row_table choice message.body refl (sym (with_written_promoted outcome requests choice.dropped) ∙ not_now))

-- ---- any event

-- a node is another in what doesn't bear on that
heard_table : (event : Event) (node heard new : NodeState) → heard.table ≡ node.table → heard.moves ≡ node.moves → heard.number ≡ node.number → TableIs event heard new → TableIs event node new
heard_table event node heard new table moves number (same is) = same (is ∙ table)
heard_table event node heard new table moves number (ends slot moving is) =
    ends slot (λ none. moving (ap (λ ms. move_of ms slot) moves ∙ none)) (is ∙ λ i. slice_set (table i) slot (Some (record { epoch = new.current_epoch; owner = number i })))
heard_table event node heard new table moves number (learns message runs replaced is says apart now) =
    learns message runs replaced is says (λ from. apart (from ∙ sym number)) (now ∙ ap (λ t. merged t runs message.from) table)

pub event_table : (node : NodeState) (event : Event) (outcome : Outcome) → MayCome node event outcome → outcome.promoted ≡ None → TableIs event node outcome.state
event_table node Open outcome may not_now = subst (λ (o : Outcome). TableIs Open node o.state) (sym may.comes_to) (same refl)
event_table node (Close conn) outcome may not_now = by_open (is_some (connection_at node.connections conn)) may
  where
    by_open : (is_open : Bool) → MatchBool is_open (IsClosing node conn outcome) (outcome ≡ silent node) → TableIs (Close conn) node outcome.state
    by_open false may = subst (λ (o : Outcome). TableIs (Close conn) node o.state) (sym may) (same refl)
    by_open true may = subst (λ (o : Outcome). TableIs (Close conn) node o.state) (sym may.comes_to) (same refl)
event_table node (Request conn words) outcome may not_now = by_asking (may_ask (connection_at node.connections conn)) may
  where
    by_asking : (asks : Bool) → MatchBool asks (IsAnswering node conn words outcome) (outcome ≡ silent node) → TableIs (Request conn words) node outcome.state
    by_asking false may = subst (λ (o : Outcome). TableIs (Request conn words) node o.state) (sym may) (same refl)
    by_asking true may =
        subst (λ (o : Outcome). TableIs (Request conn words) node o.state) (sym may.comes_to)
        (heard_table (Request conn words) node (using_up node conn) _ refl refl refl
        (with_written_table (Request conn words) (using_up node conn) (request_outcome node conn (command_of words)) (written_at node conn words) may.dropped
        (words_table (Request conn words) (using_up node conn) conn (connection_at node.connections conn) (command_of words))))
event_table node (Deliver message) outcome may not_now =
    subst (λ (o : Outcome). TableIs (Deliver message) node o.state) (sym may.comes_to) (by_target (message.to == node.number) (subst (λ (o : Outcome). o.promoted ≡ None) may.comes_to not_now))
  where
    by_target : (b : Bool) → (cond b (taken (ready node message) message.from may.choice message.body) (silent node)).promoted ≡ None
        → TableIs (Deliver message) node (cond b (taken (ready node message) message.from may.choice message.body) (silent node)).state
    by_target false not_now = same refl
    by_target true not_now =
        ready_keeps (λ (heard : NodeState). (taken heard message.from may.choice message.body).promoted ≡ None → TableIs (Deliver message) node (taken heard message.from may.choice message.body).state) node message
        (λ epoch masters health candidate handover role election not_so.
        let heard : NodeState = record node { current_epoch = epoch; masters = masters; health = health; candidate = candidate; handover = handover } in
        heard_table (Deliver message) node heard _ refl refl refl (taken_table message heard may.choice not_so)) not_now
event_table node Tick outcome may not_now =
    subst (λ (o : Outcome). TableIs Tick node o.state) (sym may.comes_to)
    (same (in_election_keeps (λ s. s.table ≡ node.table) (a_tick_older (older node)) (due_epoch (a_tick_older (older node))) (λ current candidate handover. refl)))
