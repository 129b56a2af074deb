-- What a node sent carries its number, and the ticket of the step that sent it.
use Rattle.std.proofs.Common.{◌≡◌, ◌==◌, ◌&&◌, ◌∙◌, ℕ, Bool, true, false, cond, List, [], ◌∷◌, Option, None, Some, is_some, map, refl, sym, ap, subst, inl, inr}
use Rattle.std.specs.Prelude.{Contains, MatchBool, Result, Ok, Err}
use Rattle.std.proofs.lemmas.List.Elements.{Contains-append_cases}
use Rattle.bus.specs.Stream.{is_same}
use Rattle.bus.specs.declared.message.Body.{Body}
use Rattle.bus.specs.declared.bodies.ElectionBody.TheVariants.{Candidacy as Requested, Grant, Pause, Paused}
use Rattle.bus.specs.declared.bodies.SlotsBody.TheVariants.{Copy, Ack, Drained, Claim}
use Rattle.bus.specs.declared.bodies.StreamBody.TheVariants.{Sync, Piece, Snapshot}
use Rattle.bus.specs.declared.message.Body.TheVariants.{Slots, Stream, Election, Report}
use Rattle.bus.specs.declared.bodies.Handing.{Handing}
use Rattle.bus.specs.declared.message.Message.{Message}
use Rattle.command_table.specs.Table.{command_of}
use Rattle.command_table.specs.declared.command.ClusterCommand.{ClusterCommand}
use Rattle.command_table.specs.declared.command.ClusterCommand.TheVariants as cluster
use Rattle.command_table.specs.declared.command.Command.TheVariants.{Data, Cluster}
use Rattle.command_table.specs.declared.command.Command.{Command}
use Rattle.command_table.specs.declared.command.DataCommand.{DataCommand}
use Rattle.command_table.specs.declared.command.SlotOrder.{SlotOrder}
use Rattle.command_table.specs.declared.command.SlotOrder.TheVariants.{Importing, Migrating, Node}
use Rattle.command_table.specs.declared.fault.CommandFault.{CommandFault}
use Rattle.connections.specs.Connections.{connection_at, may_ask}
use Rattle.connections.specs.declared.conn.Conn.{Conn}
use Rattle.connections.specs.declared.conn.Connection.{Connection}
use Rattle.migrate.specs.Acknowledging.{acknowledged_keys}
use Rattle.migrate.specs.declared.sending.CopyVerdict.{CopyVerdict}
use Rattle.migrate.specs.declared.sending.CopyVerdict.TheVariants as copies
use Rattle.node_step.specs.Claiming.{claimed_by}
use Rattle.node_step.specs.Commands.{command_outcome, decision_on}
use Rattle.node_step.specs.Copies.{acknowledged, copy_outcome, copy_verdict_on, first_slot, node_at, those_there}
use Rattle.node_step.proofs.Kept.{pieced_keeps, with_written_keeps, restored_keeps, synced_is}
use Rattle.election.specs.Electing.{counted, elected}
use Rattle.election.specs.declared.running.Elected.{Elected}
use Rattle.node_step.proofs.Ready.{in_election_keeps, ready_keeps}
use Rattle.node_step.specs.Failing.{a_tick_older, members_of}
use Rattle.node_step.specs.Messages.{Choice, delivered, ready, taken, taken_so, written_by_message}
use Rattle.node_step.specs.Handovers.{failover, handing_over, is_at_end, may_pause, noting}
use Rattle.node_step.specs.Promotion.{handed_promotion, promotion}
use Rattle.node_step.specs.Voting.{due_epoch, if_elected}
use Rattle.node_step.specs.Orders.{ending_outcome, ending_verdict}
use Rattle.node_step.specs.Outcome.{Outcome, silent, stamped}
use Rattle.node_step.specs.Requests.{asking_of, by_command, cluster_outcome, is_numbered, node_with_id, order_outcome, request_outcome, using_up}
use Rattle.node_step.specs.State.{NodeState, is_replica, own_master}
use Rattle.node_step.specs.Ticks.{slots_tick}
use Rattle.node_step.specs.Step.{IsAnswering, IsClosing, MayCome, NodeStep, written}
use Rattle.node_step.specs.declared.event.Event.{Event}
use Rattle.node_step.specs.declared.event.Event.TheVariants.{Open, Close, Request, Deliver, Tick}
use Rattle.node_step.specs.declared.outputs.Outputs.{Outputs}
use Rattle.redirect.specs.declared.decision.Decision.{Decision}
use Rattle.redirect.specs.declared.decision.Decision.TheVariants.{Serve, ServeImport, CrossSlot, Down, TryAgain, Ask, Moved}
use Rattle.slot_state.specs.Moves.{move_of}
use Rattle.slot_state.specs.declared.ending.NodeVerdict.{NodeVerdict}
use Rattle.slot_state.specs.declared.ending.NodeVerdict.TheVariants as ending
use Rattle.slot_state.specs.declared.copy_id.CopyId.{CopyId}
use Rattle.slot_table.specs.Claims.{merged}
use Rattle.slot_table.specs.declared.entry.SlotEntry.{SlotEntry}
use Rattle.cell_parts.specs.Journal.{IsHistory, Leads, ticket_of}
use Rattle.cell_parts.specs.declared.entry.Entry.{Entry}
use Rattle.cell_parts.specs.declared.entry.Entry.TheVariants.{Step, Skipped}
use Rattle.single_keyspace.proofs.Lists.{contains_nothing, contains_one}
use Rattle.audit.specs.Merge.{sent_in}

-- ---- a node keeps its number

abbrev IsOfNumber : NodeState → NodeState → Type 0
IsOfNumber old new = new.number ≡ old.number

abbrev Stays : NodeState → Outcome → Type 0
Stays old outcome = IsOfNumber old outcome.state

command_stays : (node : NodeState) (numbered : Bool) (command : DataCommand) (why : Decision) → Stays node (command_outcome node numbered command why)
command_stays node numbered command Serve = refl
command_stays node numbered command (ServeImport number) = refl
command_stays node numbered command CrossSlot = refl
command_stays node numbered command Down = refl
command_stays node numbered command (TryAgain reason) = refl
command_stays node numbered command (Ask slot to number) = refl
command_stays node numbered command (Moved slot to) = refl

ending_stays : (node : NodeState) (slot : ℕ) (verdict : NodeVerdict) → Stays node (ending_outcome node slot verdict)
ending_stays node slot (ending.Ends drained) = refl
ending_stays node slot ending.UnknownNode = refl
ending_stays node slot ending.OldMove = refl
ending_stays node slot ending.NotDrained = refl
ending_stays node slot ending.IsOwner = refl
ending_stays node slot ending.NotYetOwner = refl

order_stays : (node : NodeState) (slot : ℕ) (order : SlotOrder) (other number : Option ℕ) → Stays node (order_outcome node slot order other number)
order_stays node slot Importing other number = refl
order_stays node slot Migrating other number = refl
order_stays node slot Node other number = ending_stays node slot (ending_verdict node slot other number)

copy_stays : (node : NodeState) (conn : Conn) (slot : ℕ) (keys : List (List ℕ)) (ticks : ℕ) (verdict : CopyVerdict) → Stays node (copy_outcome node conn slot keys ticks verdict)
copy_stays node conn slot keys ticks copies.CrossSlot = refl
copy_stays node conn slot keys ticks copies.WrongTarget = refl
copy_stays node conn slot keys ticks copies.NoKey = refl
copy_stays node conn slot keys ticks copies.CopyOutstanding = refl
copy_stays node conn slot keys ticks copies.Exhausted = refl
copy_stays node conn slot keys ticks (copies.SendAgain to number copy) = refl
copy_stays node conn slot keys ticks (copies.Copies to number copy) = refl

failover_stays : (node : NodeState) (master : Option ℕ) → Stays node (failover node master)
failover_stays node None = refl
failover_stays node (Some master) = refl

cluster_stays : (node : NodeState) (conn : Conn) (command : ClusterCommand) → Stays node (cluster_outcome node conn command)
cluster_stays node conn (cluster.KeySlot key) = refl
cluster_stays node conn cluster.MyId = refl
cluster_stays node conn cluster.Slots = refl
cluster_stays node conn (cluster.CountKeysInSlot slot) = refl
cluster_stays node conn (cluster.GetKeysInSlot slot count) = refl
cluster_stays node conn (cluster.SlotState slot) = refl
cluster_stays node conn (cluster.SetSlot slot order id number) = order_stays node slot order (node_with_id node id) number
cluster_stays node conn cluster.Numbered = refl
cluster_stays node conn cluster.Failover = failover_stays node (own_master node)
cluster_stays node conn (cluster.Asking number) = refl
cluster_stays node conn (cluster.Migrate host port keys timeout) = copy_stays node conn (first_slot keys) (those_there node.keyspace keys) timeout (copy_verdict_on node keys (node_at node host port))

words_stay : (node : NodeState) (conn : Conn) (connection : Option Connection) (command : Result Command CommandFault) → Stays node (by_command node conn connection command)
words_stay node conn connection (Err fault) = refl
words_stay node conn connection (Ok (Cluster command)) = cluster_stays node conn command
words_stay node conn connection (Ok (Data command)) = command_stays node (is_numbered connection) command (decision_on node command (asking_of connection))

request_stays : (node : NodeState) (conn : Conn) (words : List (List ℕ)) → Stays node (request_outcome node conn (command_of words))
request_stays node conn words = words_stay (using_up node conn) conn (connection_at node.connections conn) (command_of words)

acknowledged_stays : (node : NodeState) (id : CopyId) (keys : Option (List (List ℕ))) → Stays node (acknowledged node id keys)
acknowledged_stays node id None = refl
acknowledged_stays node id (Some keys) = refl

-- what comes of a vote, whether it elects the node or not
voted_stays : (node : NodeState) (won : Option Elected) → Stays node (if_elected node won)
voted_stays node None = refl
voted_stays node (Some elected) = by_plan node.candidate.planned
  where
    by_master : (master : Option ℕ) → (promotion node elected.epoch master).state.number ≡ node.number
    by_master None = refl
    by_master (Some master) = refl

    by_place : (at_end : Bool) (handed : Outcome) → handed.state.number ≡ node.number → (cond at_end handed (silent node)).state.number ≡ node.number
    by_place true handed same = same
    by_place false handed same = refl

    by_note : (master : Option ℕ) (note : Option Handing) → (handed_promotion node elected.epoch master note).state.number ≡ node.number
    by_note None note = refl
    by_note (Some master) None = refl
    by_note (Some master) (Some handing) = by_place (is_at_end node.stream (Some handing)) _ refl

    by_plan : (planned : Bool) → (cond planned (handed_promotion node elected.epoch (own_master node) node.handover.note) (promotion node elected.epoch (own_master node))).state.number ≡ node.number
    by_plan true = by_note (own_master node) node.handover.note
    by_plan false = by_master (own_master node)

taken_so_stays : (node : NodeState) (from : ℕ) (choice : Choice) (body : Body) → Stays node (taken_so node from choice body)
taken_so_stays node from choice (Slots (Copy id pairs)) = refl
taken_so_stays node from choice (Slots (Ack id)) = acknowledged_stays node id (acknowledged_keys (move_of node.moves id.slot) from id.number id.copy)
taken_so_stays node from choice (Slots (Drained slot number epoch)) = refl
taken_so_stays node from choice (Slots (Claim slots replaced)) = by_own (from == node.number) (merged node.table slots from)
  where
    by_own : (own : Bool) (table : List (Option SlotEntry)) → (cond own (silent node) (claimed_by node table)).state.number ≡ node.number
    by_own true table = refl
    by_own false table = refl
taken_so_stays node from choice (Report suspects) = refl
taken_so_stays node from choice (Election (Requested request)) = refl
taken_so_stays node from choice (Election (Grant epoch)) = voted_stays (record node { candidate = counted node.candidate (members_of node) from epoch }) (elected node.candidate (members_of node) from epoch)
taken_so_stays node from choice (Stream (Sync sync)) = synced_is (Stays node) node from sync refl refl
taken_so_stays node from choice (Stream (Piece piece)) = pieced_keeps (IsOfNumber node) node (λ stream keyspace. refl) from piece choice.follower
taken_so_stays node from choice (Stream (Snapshot snapshot)) = restored_keeps (IsOfNumber node) node (λ stream keyspace. refl) from snapshot
taken_so_stays node from choice (Election (Pause stream)) = by_test (may_pause node from stream)
  where
    by_test : (b : Bool) → (cond b (handing_over node from) (silent node)).state.number ≡ node.number
    by_test true = refl
    by_test false = refl
taken_so_stays node from choice (Election (Paused handing)) = by_test (is_replica node && is_same handing.stream node.stream.held.id)
  where
    by_test : (b : Bool) → (cond b (record node { handover = noting node.handover handing }) node).number ≡ node.number
    by_test true = refl
    by_test false = refl

taken_stays : (node : NodeState) (from : ℕ) (choice : Choice) (body : Body) → Stays node (taken node from choice body)
taken_stays node from choice body =
    with_written_keeps (IsOfNumber node) (taken_so node from choice body) (written_by_message node from body) choice.dropped (λ stream. taken_so_stays node from choice body)

delivered_stays : (node : NodeState) (message : Message) (choice : Choice) → Stays node (delivered node message choice)
delivered_stays node message choice = by_node (message.to == node.number)
  where
    by_node : (here : Bool) → (cond here (taken (ready node message) message.from choice message.body) (silent node)).state.number ≡ node.number
    by_node true =
        ready_keeps (λ (own : NodeState). (taken own message.from choice message.body).state.number ≡ node.number) node message
        (λ epoch masters health candidate handover as_before goes.
        taken_stays (record node { current_epoch = epoch; masters = masters; health = health; candidate = candidate; handover = handover }) message.from choice message.body)
    by_node false = refl

close_stays : (old : NodeState) (conn : Conn) (is_open : Bool) (outcome : Outcome) → MatchBool is_open (IsClosing old conn outcome) (outcome ≡ silent old) → Stays old outcome
close_stays old conn true outcome may = ap (λ (o : Outcome). o.state.number) may.comes_to
close_stays old conn false outcome may = ap (λ (o : Outcome). o.state.number) may

answer_stays : (old : NodeState) (conn : Conn) (words : List (List ℕ)) (asks : Bool) (outcome : Outcome) → MatchBool asks (IsAnswering old conn words outcome) (outcome ≡ silent old) → Stays old outcome
answer_stays old conn words true outcome may =
    ap (λ (o : Outcome). o.state.number) may.comes_to
    ∙ with_written_keeps (IsOfNumber old) (request_outcome old conn (command_of words)) (written old conn words) may.dropped (λ stream. request_stays old conn words)
answer_stays old conn words false outcome may = ap (λ (o : Outcome). o.state.number) may

event_stays : (old : NodeState) (event : Event) (outcome : Outcome) → MayCome old event outcome → Stays old outcome
event_stays old Open outcome may = ap (λ (o : Outcome). o.state.number) may.comes_to
event_stays old (Close conn) outcome may = close_stays old conn (is_some (connection_at old.connections conn)) outcome may
event_stays old (Request conn words) outcome may = answer_stays old conn words (may_ask (connection_at old.connections conn)) outcome may
event_stays old (Deliver message) outcome may = ap (λ (o : Outcome). o.state.number) may.comes_to ∙ delivered_stays old message may.choice
event_stays old Tick outcome may =
    let aged = a_tick_older (slots_tick old).state in
    ap (λ (o : Outcome). o.state.number) may.comes_to ∙ in_election_keeps (IsOfNumber old) aged (due_epoch aged) (λ current candidate handover. refl)

-- ---- what it sends

pub record IsStamped (node ticket : ℕ) (message : Message) : Type 0 where
  pub from : message.from ≡ node
  pub under : message.ticket ≡ ticket

all_stamped : (node ticket epoch : ℕ) (sent : List (ℕ × Body)) (message : Message) → Contains (map (stamped node ticket epoch) sent) message → IsStamped node ticket message
all_stamped node ticket epoch [] message there = absurd (contains_nothing message there)
all_stamped node ticket epoch (body ∷ sent) message there = elim (Contains-append_cases (stamped node ticket epoch body ∷ []) (map (stamped node ticket epoch) sent) message there) [
  | inl first ↦
      let same = contains_one (stamped node ticket epoch body) message first in
      record { from = ap (λ (m : Message). m.from) (sym same); under = ap (λ (m : Message). m.ticket) (sym same) }
  | inr later ↦ all_stamped node ticket epoch sent message later
]

step_stamps : (ticket : ℕ) (old new : NodeState) (event : Event) (outputs : Outputs) → NodeStep ticket old event outputs new → (message : Message) → Contains outputs.sent message → IsStamped old.number outputs.ticket message
step_stamps ticket old new event outputs step message there =
    let sent = ap (λ (o : Outputs). o.sent) step.outputs_are in
    let stamp = all_stamped step.outcome.state.number ticket step.outcome.state.current_epoch step.outcome.sent message (subst (λ (all : List Message). Contains all message) sent there) in
    record {
      from = stamp.from ∙ event_stays old event step.outcome step.may_come;
      under = stamp.under ∙ sym (ap (λ (o : Outputs). o.ticket) step.outputs_are);
    }

step_number : (ticket : ℕ) (old new : NodeState) (event : Event) (outputs : Outputs) → NodeStep ticket old event outputs new → new.number ≡ old.number
step_number ticket old new event outputs step = ap (λ (node : NodeState). node.number) step.state ∙ event_stays old event step.outcome step.may_come

kept : (first next : NodeState) (head : Entry) → Leads first head next → next.number ≡ first.number
kept first next (Step event outputs) leads = step_number outputs.ticket first next event outputs leads.1
kept first next (Skipped ticket) leads = ap (λ (node : NodeState). node.number) leads

head_stamps : (first next : NodeState) (head entry : Entry) → Leads first head next → head ≡ entry → (message : Message) → Contains (sent_in entry) message
    → IsStamped first.number (ticket_of entry) message
head_stamps first next (Step event outputs) entry leads same message there =
    let stamp = step_stamps outputs.ticket first next event outputs leads.1 message (subst (λ (e : Entry). Contains (sent_in e) message) (sym same) there) in
    record { from = stamp.from; under = stamp.under ∙ ap ticket_of same }
head_stamps first next (Skipped ticket) entry leads same message there = absurd (contains_nothing message (subst (λ (e : Entry). Contains (sent_in e) message) (sym same) there))

-- each message that an entry of the journal sent is stamped so
pub journal_stamps : (first last : NodeState) (entries : List Entry) → IsHistory first entries last → (entry : Entry) → Contains entries entry → (message : Message) → Contains (sent_in entry) message
    → IsStamped first.number (ticket_of entry) message
journal_stamps first last [] history entry among message there = absurd (contains_nothing entry among)
journal_stamps first last (head ∷ entries) history entry among message there =
    let next = history.0 in
    let leads = history.1 in
    elim (Contains-append_cases (head ∷ []) entries entry among) [
      | inl here ↦ head_stamps first next head entry leads (contains_one head entry here) message there
      | inr later ↦
          let stamp = journal_stamps next last entries history.2 entry later message there in
          record { from = stamp.from ∙ kept first next head leads; under = stamp.under }
    ]
