-- A connection whose client said CLUSTER NUMBERED stays so while it is open.
use Rattle.std.proofs.Common.{◌&&◌, ◌≡◌, ◌≢◌, ◌<◌, ◌==◌, ◌∙◌, ℕ, Bool, true, false, true≢false, cond, List, Option, None, Some, is_some, refl, sym, ap, subst, inl, inr, arith}
use Rattle.std.proofs.Math.ListN.{get_or-map}
use Rattle.std.proofs.lemmas.Bool.{cases_eq}
use Rattle.std.specs.Prelude.{MatchBool, Result, Ok, Err}
use Rattle.bus.specs.Stream.{is_same}
use Rattle.bus.specs.declared.message.Body.{Body}
use Rattle.bus.specs.declared.bodies.ElectionBody.TheVariants.{Candidacy as Requested, Grant, Pause, Paused}
use Rattle.bus.specs.declared.bodies.SlotsBody.TheVariants.{Copy, Ack, Drained, Claim}
use Rattle.bus.specs.declared.bodies.StreamBody.TheVariants.{Sync, Piece, Snapshot}
use Rattle.bus.specs.declared.message.Body.TheVariants.{Slots, Stream, Election, Report}
use Rattle.bus.specs.declared.message.Message.{Message}
use Rattle.bus.specs.declared.bodies.Handing.{Handing}
use Rattle.command_table.specs.Table.{command_of}
use Rattle.command_table.specs.declared.command.ClusterCommand.{ClusterCommand}
use Rattle.command_table.specs.declared.command.ClusterCommand.TheVariants as cluster
use Rattle.command_table.specs.declared.command.Command.{Command}
use Rattle.command_table.specs.declared.command.Command.TheVariants.{Data, Cluster}
use Rattle.command_table.specs.declared.command.DataCommand.{DataCommand}
use Rattle.command_table.specs.declared.command.SlotOrder.{SlotOrder}
use Rattle.command_table.specs.declared.command.SlotOrder.TheVariants.{Importing, Migrating, Node}
use Rattle.command_table.specs.declared.fault.CommandFault.{CommandFault}
use Rattle.connections.specs.Connections.{Closes, ConnectionTable, Opens, aged, all_aged, all_freed, connection_at, fresh, freed, is_over, may_ask, open_at, opens_at, shortened, waits_so, with_change, with_generation}
use Rattle.connections.specs.declared.conn.Conn.{Conn}
use Rattle.connections.specs.declared.conn.Connection.{Connection}
use Rattle.connections.specs.declared.conn.Wait.{Wait}
use Rattle.migrate.specs.Acknowledging.{acknowledged_keys}
use Rattle.migrate.specs.declared.sending.CopyVerdict.{CopyVerdict}
use Rattle.migrate.specs.declared.sending.CopyVerdict.TheVariants as copies
use Rattle.node_step.specs.Claiming.{claimed_by}
use Rattle.node_step.specs.Commands.{command_outcome, decision_on}
use Rattle.node_step.specs.Copies.{acknowledged, copy_outcome, copy_verdict_on, first_slot, node_at, those_there, waiting_for}
use Rattle.node_step.proofs.Kept.{pieced_keeps, with_written_keeps, restored_keeps, synced_is}
use Rattle.node_step.proofs.WithWritten.{with_written_state}
use Rattle.election.specs.Electing.{elected}
use Rattle.election.specs.declared.running.Elected.{Elected}
use Rattle.node_step.proofs.Ready.{in_election_keeps, ready_keeps}
use Rattle.node_step.specs.Failing.{a_tick_older, members_of}
use Rattle.node_step.specs.Messages.{Choice, delivered, ready, taken, taken_so, written_by_message}
use Rattle.node_step.specs.Promotion.{handed_promotion, promotion, promotion_to, table_handed}
use Rattle.node_step.specs.Voting.{due_epoch, if_elected}
use Rattle.node_step.specs.Orders.{ending_outcome, ending_verdict}
use Rattle.node_step.specs.Outcome.{Outcome, silent}
use Rattle.node_step.specs.Requests.{asking_for, asking_of, by_command, cluster_outcome, is_numbered, node_with_id, order_outcome, request_outcome, using_up}
use Rattle.node_step.specs.State.{NodeState, is_replica, own_master}
use Rattle.node_step.specs.Ticks.{slots_tick}
use Rattle.node_step.specs.Step.{IsAnswering, IsClosing, MayCome, NodeStep, answered, written}
use Rattle.node_step.specs.declared.event.Event.{Event}
use Rattle.node_step.specs.declared.event.Event.TheVariants.{Open, Close, Request, Deliver, Tick}
use Rattle.node_step.specs.declared.outputs.Outputs.{Outputs}
use Rattle.node_step.specs.declared.response.Answer.{Answer}
use Rattle.node_step.specs.declared.response.Response.TheVariants.{Nothing, Replied}
use Rattle.redirect.specs.declared.asked.Asking.TheVariants.{No}
use Rattle.redirect.specs.declared.decision.Decision.{Decision}
use Rattle.redirect.specs.declared.decision.Decision.TheVariants.{Serve, ServeImport, CrossSlot, Down, TryAgain, Ask, Moved}
use Rattle.slot_state.specs.Moves.{copy_id, move_of}
use Rattle.slot_state.specs.declared.ending.NodeVerdict.{NodeVerdict}
use Rattle.slot_state.specs.declared.ending.NodeVerdict.TheVariants as ending
use Rattle.slot_state.specs.declared.copy_id.CopyId.{CopyId}
use Rattle.slot_table.specs.Claims.{merged}
use Rattle.slot_table.specs.declared.entry.SlotEntry.{SlotEntry}
use Rattle.smart_client.specs.Words.{numbered_words}
use Rattle.world_nodes.proofs.Connected.{cases_conn, changed, changed_here, is_not_with, unchanged_there}
use Rattle.node_step.specs.Handovers.{failover, handing_over, is_at_end, may_pause, noting}

-- its client said so, or it isn't open any more
abbrev pub is_introduced : Option Connection → Bool
is_introduced None = true
is_introduced (Some connection) = connection.numbered

abbrev pub introduced_at : ConnectionTable → Conn → Bool
introduced_at table conn = is_introduced (connection_at table conn)

-- ---- a connection that is changed

module _ (table : ConnectionTable) (conn : Conn) (change : Connection → Connection) (same_generation : (connection : Connection) → (change connection).generation ≡ connection.generation) where
  -- where the change takes nothing away
  changed_introduced : ((connection : Connection) → connection.numbered ≡ true → (change connection).numbered ≡ true) → (other : Conn) → introduced_at table other ≡ true
      → introduced_at (with_change table conn change) other ≡ true
  changed_introduced no_less other is =
      elim (cases_conn other conn) [
        | inr apart ↦ ap is_introduced (unchanged_there table conn change same_generation other apart) ∙ is
        | inl here ↦
            ap (introduced_at (with_change table conn change)) here ∙ ap is_introduced (changed_here table conn change same_generation)
            ∙ by_found (connection_at table conn) (sym (ap (introduced_at table) here) ∙ is)
      ]
    where
      by_found : (found : Option Connection) → is_introduced found ≡ true → is_introduced (changed change found) ≡ true
      by_found None was = refl
      by_found (Some connection) was = no_less connection was

  -- where it introduces
  newly_introduced : ((connection : Connection) → (change connection).numbered ≡ true) → introduced_at (with_change table conn change) conn ≡ true
  newly_introduced introduces = ap is_introduced (changed_here table conn change same_generation) ∙ by_found (connection_at table conn)
    where
      by_found : (found : Option Connection) → is_introduced (changed change found) ≡ true
      by_found None = refl
      by_found (Some connection) = introduces connection

-- ---- connections that wait no more, or for a tick less

with_waits : (connection : Connection) (waits : Option Wait) (is : Bool) → is_introduced (cond is (Some (record connection { waits = waits })) None) ≡ is_introduced (cond is (Some connection) None)
with_waits connection waits true = refl
with_waits connection waits false = refl

freed_introduced : (test : Wait → Bool) (generation : ℕ) (slot : Option Connection) → is_introduced (with_generation generation (freed test slot)) ≡ is_introduced (with_generation generation slot)
freed_introduced test generation None = refl
freed_introduced test generation (Some connection) = by_test (waits_so test connection.waits)
  where
    by_test : (frees : Bool) → is_introduced (with_generation generation (cond frees (Some (record connection { waits = None })) (Some connection))) ≡ is_introduced (with_generation generation (Some connection))
    by_test true = with_waits connection None (connection.generation == generation)
    by_test false = refl

aged_introduced : (generation : ℕ) (slot : Option Connection) → is_introduced (with_generation generation (aged slot)) ≡ is_introduced (with_generation generation slot)
aged_introduced generation None = refl
aged_introduced generation (Some connection) = with_waits connection (shortened connection.waits) (connection.generation == generation)

all_freed_introduced : (table : ConnectionTable) (test : Wait → Bool) (conn : Conn) → introduced_at (all_freed table test) conn ≡ introduced_at table conn
all_freed_introduced table test conn =
    ap (λ slot. is_introduced (with_generation conn.generation slot)) (get_or-map (freed test) table.slots conn.key None)
    ∙ freed_introduced test conn.generation (open_at table conn.key)

all_aged_introduced : (table : ConnectionTable) (conn : Conn) → introduced_at (all_aged table) conn ≡ introduced_at table conn
all_aged_introduced table conn =
    ap (λ slot. is_introduced (with_generation conn.generation slot)) (get_or-map aged table.slots conn.key None)
    ∙ aged_introduced conn.generation (open_at table conn.key)

-- ---- connections that are opened and closed

-- the one that is opened is a later one
opened_introduced : (old new : ConnectionTable) (conn : Conn) → Opens old new conn → (other : Conn) → other.generation < opens_at old other.key → introduced_at old other ≡ true → introduced_at new other ≡ true
opened_introduced old new conn opens other known is =
    elim (cases_eq other.key conn.key) [
      | inl here ↦
          let below : other.generation < opens_at old conn.key = subst (λ key. other.generation < opens_at old key) here known in
          let apart : conn.generation ≢ other.generation = λ same. omega (arith, below, opens.generation, same) in
          ap (λ slot. is_introduced (with_generation other.generation slot)) (ap (open_at new) here ∙ opens.opened)
          ∙ ap is_introduced (is_not_with other.generation (fresh conn.generation) apart)
      | inr elsewhere ↦ ap (λ slot. is_introduced (with_generation other.generation slot)) (opens.others other.key elsewhere) ∙ is
    ]

closed_introduced : (old new : ConnectionTable) (conn : Conn) → Closes old new conn → (other : Conn) → introduced_at old other ≡ true → introduced_at new other ≡ true
closed_introduced old new conn closes other is =
    elim (cases_eq other.key conn.key) [
      | inl here ↦ ap (λ slot. is_introduced (with_generation other.generation slot)) (ap (open_at new) here ∙ closes.closed)
      | inr elsewhere ↦ ap (λ slot. is_introduced (with_generation other.generation slot)) (closes.others other.key elsewhere) ∙ is
    ]

-- ---- steps

-- all that are introduced stay so
abbrev Stays : NodeState → NodeState → Type 0
Stays old new = (conn : Conn) → introduced_at old.connections conn ≡ true → introduced_at new.connections conn ≡ true

still : (old new : NodeState) → new.connections ≡ old.connections → Stays old new
still old new same conn is = ap (λ (table : ConnectionTable). introduced_at table conn) same ∙ is

command_stays : (node : NodeState) (numbered : Bool) (command : DataCommand) (why : Decision) → Stays node (command_outcome node numbered command why).state
command_stays node numbered command Serve conn is = is
command_stays node numbered command (ServeImport number) conn is = is
command_stays node numbered command CrossSlot conn is = is
command_stays node numbered command Down conn is = is
command_stays node numbered command (TryAgain reason) conn is = is
command_stays node numbered command (Ask slot to number) conn is = is
command_stays node numbered command (Moved slot to) conn is = is

ending_stays : (node : NodeState) (slot : ℕ) (verdict : NodeVerdict) → Stays node (ending_outcome node slot verdict).state
ending_stays node slot (ending.Ends drained) conn is = is
ending_stays node slot ending.UnknownNode conn is = is
ending_stays node slot ending.OldMove conn is = is
ending_stays node slot ending.NotDrained conn is = is
ending_stays node slot ending.IsOwner conn is = is
ending_stays node slot ending.NotYetOwner conn is = is

order_stays : (node : NodeState) (slot : ℕ) (order : SlotOrder) (other number : Option ℕ) → Stays node (order_outcome node slot order other number).state
order_stays node slot Importing other number conn is = is
order_stays node slot Migrating other number conn is = is
order_stays node slot Node other number conn is = ending_stays node slot (ending_verdict node slot other number) conn is

waiting_stays : (node : NodeState) (conn : Conn) (id : CopyId) (ticks : ℕ) (other : Conn) → introduced_at node.connections other ≡ true
    → introduced_at (with_change node.connections conn (waiting_for id ticks)) other ≡ true
waiting_stays node conn id ticks other is = changed_introduced node.connections conn (waiting_for id ticks) (λ connection. refl) (λ connection was. was) other is

copy_stays : (node : NodeState) (conn : Conn) (slot : ℕ) (keys : List (List ℕ)) (ticks : ℕ) (verdict : CopyVerdict) → Stays node (copy_outcome node conn slot keys ticks verdict).state
copy_stays node conn slot keys ticks copies.CrossSlot other is = is
copy_stays node conn slot keys ticks copies.WrongTarget other is = is
copy_stays node conn slot keys ticks copies.NoKey other is = is
copy_stays node conn slot keys ticks copies.CopyOutstanding other is = is
copy_stays node conn slot keys ticks copies.Exhausted other is = is
copy_stays node conn slot keys ticks (copies.SendAgain to number copy) other is = waiting_stays node conn (copy_id slot number copy) ticks other is
copy_stays node conn slot keys ticks (copies.Copies to number copy) other is = waiting_stays node conn (copy_id slot number copy) ticks other is

failover_stays : (node : NodeState) (master : Option ℕ) → Stays node (failover node master).state
failover_stays node None other is = is
failover_stays node (Some master) other is = is

cluster_stays : (node : NodeState) (conn : Conn) (command : ClusterCommand) → Stays node (cluster_outcome node conn command).state
cluster_stays node conn (cluster.KeySlot key) other is = is
cluster_stays node conn cluster.MyId other is = is
cluster_stays node conn cluster.Slots other is = is
cluster_stays node conn (cluster.CountKeysInSlot slot) other is = is
cluster_stays node conn (cluster.GetKeysInSlot slot count) other is = is
cluster_stays node conn (cluster.SlotState slot) other is = is
cluster_stays node conn (cluster.SetSlot slot order id number) other is = order_stays node slot order (node_with_id node id) number other is
cluster_stays node conn cluster.Numbered other is =
    changed_introduced node.connections conn (λ connection. record connection { numbered = true }) (λ connection. refl) (λ connection was. refl) other is
cluster_stays node conn cluster.Failover other is = failover_stays node (own_master node) other is
cluster_stays node conn (cluster.Asking number) other is =
    changed_introduced node.connections conn (λ connection. record connection { asking = asking_for number }) (λ connection. refl) (λ connection was. was) other is
cluster_stays node conn (cluster.Migrate host port keys timeout) other is = copy_stays node conn (first_slot keys) (those_there node.keyspace keys) timeout (copy_verdict_on node keys (node_at node host port)) other is

words_stay : (node : NodeState) (conn : Conn) (connection : Option Connection) (command : Result Command CommandFault) → Stays node (by_command node conn connection command).state
words_stay node conn connection (Err fault) other is = is
words_stay node conn connection (Ok (Cluster command)) other is = cluster_stays node conn command other is
words_stay node conn connection (Ok (Data command)) other is = command_stays node (is_numbered connection) command (decision_on node command (asking_of connection)) other is

request_stays : (node : NodeState) (conn : Conn) (words : List (List ℕ)) → Stays node (request_outcome node conn (command_of words)).state
request_stays node conn words other is =
    words_stay (using_up node conn) conn (connection_at node.connections conn) (command_of words) other
    (changed_introduced node.connections conn (λ connection. record connection { asking = No }) (λ connection. refl) (λ connection was. was) other is)

answered_stays : (node : NodeState) (conn : Conn) (words : List (List ℕ)) (dropped : ℕ) → Stays node (answered node conn words dropped).state
answered_stays node conn words dropped =
    with_written_keeps (Stays node) (request_outcome node conn (command_of words)) (written node conn words) dropped (λ stream. request_stays node conn words)

acknowledged_stays : (node : NodeState) (id : CopyId) (keys : Option (List (List ℕ))) → Stays node (acknowledged node id keys).state
acknowledged_stays node id None other is = is
acknowledged_stays node id (Some keys) other is = all_freed_introduced node.connections _ other ∙ is

-- what comes of a vote, whether it elects the node or not
elected_keeps : (P : Outcome → Type 0) (node : NodeState) (won : Option Elected) → P (silent node)
    → ((master epoch : ℕ) (planned : Bool) (table : List (Option SlotEntry)) → P (promotion_to node master epoch planned table)) → P (if_elected node won)
elected_keeps P node None silent_one promoted = silent_one
elected_keeps P node (Some elected) silent_one promoted = by_plan node.candidate.planned
  where
    by_master : (master : Option ℕ) → P (promotion node elected.epoch master)
    by_master None = silent_one
    by_master (Some master) = promoted master elected.epoch false _

    handed : (master : Option ℕ) (told : Option Handing) → P (handed_promotion node elected.epoch master told)
    handed None told = silent_one
    handed (Some master) None = silent_one
    handed (Some master) (Some handing) = by_place (is_at_end node.stream (Some handing))
      where
        by_place : (b : Bool) → P (cond b (promotion_to node master elected.epoch true (table_handed node handing.slots elected.epoch)) (silent node))
        by_place true = promoted master elected.epoch true _
        by_place false = silent_one

    by_plan : (planned : Bool) → P (cond planned (handed_promotion node elected.epoch (own_master node) node.handover.note) (promotion node elected.epoch (own_master node)))
    by_plan true = handed (own_master node) node.handover.note
    by_plan false = by_master (own_master node)

taken_so_stays : (node : NodeState) (from : ℕ) (choice : Choice) (body : Body) → Stays node (taken_so node from choice body).state
taken_so_stays node from choice (Slots (Copy id pairs)) other is = is
taken_so_stays node from choice (Slots (Ack id)) other is = acknowledged_stays node id (acknowledged_keys (move_of node.moves id.slot) from id.number id.copy) other is
taken_so_stays node from choice (Slots (Drained slot number epoch)) other is = is
taken_so_stays node from choice (Slots (Claim slots replaced)) other is = by_own (from == node.number) (merged node.table slots from)
  where
    by_own : (own : Bool) (table : List (Option SlotEntry)) → introduced_at (cond own (silent node) (claimed_by node table)).state.connections other ≡ true
    by_own true table = is
    by_own false table = all_freed_introduced node.connections _ other ∙ is
taken_so_stays node from choice (Report suspects) other is = is
taken_so_stays node from choice (Election (Requested request)) other is = is
taken_so_stays node from choice (Election (Grant epoch)) other is =
    elected_keeps (λ (o : Outcome). introduced_at o.state.connections other ≡ true) _ (elected node.candidate (members_of node) from epoch) is (λ master won planned table. is)
taken_so_stays node from choice (Stream (Sync sync)) other is = synced_is (λ (o : Outcome). Stays node o.state) node from sync (λ other is. is) (λ other is. is) other is
taken_so_stays node from choice (Stream (Piece piece)) other is = pieced_keeps (Stays node) node (λ stream keyspace other is. is) from piece choice.follower other is
taken_so_stays node from choice (Stream (Snapshot snapshot)) other is = restored_keeps (Stays node) node (λ stream keyspace other is. is) from snapshot other is
taken_so_stays node from choice (Election (Pause stream)) other is = by_test (may_pause node from stream)
  where
    by_test : (b : Bool) → introduced_at (cond b (handing_over node from) (silent node)).state.connections other ≡ true
    by_test true = is
    by_test false = is
taken_so_stays node from choice (Election (Paused handing)) other is = by_test (is_replica node && is_same handing.stream node.stream.held.id)
  where
    by_test : (b : Bool) → introduced_at (cond b (record node { handover = noting node.handover handing }) node).connections other ≡ true
    by_test true = is
    by_test false = is

taken_stays : (node : NodeState) (from : ℕ) (choice : Choice) (body : Body) → Stays node (taken node from choice body).state
taken_stays node from choice body =
    with_written_keeps (Stays node) (taken_so node from choice body) (written_by_message node from body) choice.dropped (λ stream. taken_so_stays node from choice body)

delivered_stays : (node : NodeState) (message : Message) (choice : Choice) → Stays node (delivered node message choice).state
delivered_stays node message choice other is = by_node (message.to == node.number)
  where
    by_node : (here : Bool) → introduced_at (cond here (taken (ready node message) message.from choice message.body) (silent node)).state.connections other ≡ true
    by_node true =
        ready_keeps (λ (own : NodeState). introduced_at (taken own message.from choice message.body).state.connections other ≡ true) node message
        (λ epoch masters health candidate handover as_before goes. taken_stays (record node { current_epoch = epoch; masters = masters; health = health; candidate = candidate; handover = handover }) message.from choice message.body other is)
    by_node false = is

-- ---- any event

-- all that were opened, and are introduced, stay so
abbrev pub Keeps : NodeState → NodeState → Type 0
Keeps old new = (conn : Conn) → conn.generation < opens_at old.connections conn.key → introduced_at old.connections conn ≡ true → introduced_at new.connections conn ≡ true

close_keeps : (old : NodeState) (conn : Conn) (is_open : Bool) (outcome : Outcome) → MatchBool is_open (IsClosing old conn outcome) (outcome ≡ silent old) → Keeps old outcome.state
close_keeps old conn true outcome may other known is = closed_introduced old.connections outcome.state.connections conn may.closes other is
close_keeps old conn false outcome may other known is = subst (λ (o : Outcome). introduced_at o.state.connections other ≡ true) (sym may) is

answer_keeps : (old : NodeState) (conn : Conn) (words : List (List ℕ)) (asks : Bool) (outcome : Outcome) → MatchBool asks (IsAnswering old conn words outcome) (outcome ≡ silent old) → Keeps old outcome.state
answer_keeps old conn words true outcome may other known is =
    subst (λ (o : Outcome). introduced_at o.state.connections other ≡ true) (sym may.comes_to) (answered_stays old conn words may.dropped other is)
answer_keeps old conn words false outcome may other known is = subst (λ (o : Outcome). introduced_at o.state.connections other ≡ true) (sym may) is

event_keeps : (old : NodeState) (event : Event) (outcome : Outcome) → MayCome old event outcome → Keeps old outcome.state
event_keeps old Open outcome may other known is = opened_introduced old.connections outcome.state.connections may.conn may.opens other known is
event_keeps old (Close conn) outcome may other known is = close_keeps old conn (is_some (connection_at old.connections conn)) outcome may other known is
event_keeps old (Request conn words) outcome may other known is = answer_keeps old conn words (may_ask (connection_at old.connections conn)) outcome may other known is
event_keeps old (Deliver message) outcome may other known is =
    subst (λ (o : Outcome). introduced_at o.state.connections other ≡ true) (sym may.comes_to) (delivered_stays old message may.choice other is)
event_keeps old Tick outcome may other known is =
    let aged = a_tick_older (slots_tick old).state in
    subst (λ (o : Outcome). introduced_at o.state.connections other ≡ true) (sym may.comes_to)
    (in_election_keeps (λ (node : NodeState). introduced_at node.connections other ≡ true) aged (due_epoch aged)
    (λ current candidate handover. all_aged_introduced (all_freed old.connections is_over) other ∙ all_freed_introduced old.connections is_over other ∙ is))

pub step_keeps : (ticket : ℕ) (old new : NodeState) (event : Event) (outputs : Outputs) → NodeStep ticket old event outputs new → Keeps old new
step_keeps ticket old new event outputs step conn known is =
    ap (λ (node : NodeState). introduced_at node.connections conn) step.state ∙ event_keeps old event step.outcome step.may_come conn known is

-- ---- requests that are answered

no_reply : {answer : Answer} → Nothing ≡ Replied answer → ⊥
no_reply same = cc

-- their connections are open
record IsHeard (old : NodeState) (conn : Conn) (words : List (List ℕ)) (outcome : Outcome) : Type 0 where
  may : may_ask (connection_at old.connections conn) ≡ true
  answering : IsAnswering old conn words outcome

is_heard : (old : NodeState) (conn : Conn) (words : List (List ℕ)) (outcome : Outcome) (answer : Answer) (asks : Bool) → may_ask (connection_at old.connections conn) ≡ asks
    → MatchBool asks (IsAnswering old conn words outcome) (outcome ≡ silent old) → outcome.response ≡ Replied answer → IsHeard old conn words outcome
is_heard old conn words outcome answer true is may answers = record { may = is; answering = may }
is_heard old conn words outcome answer false is may answers = absurd (no_reply (sym (ap (λ (o : Outcome). o.response) may) ∙ answers))

heard : (ticket : ℕ) (old new : NodeState) (conn : Conn) (words : List (List ℕ)) (outputs : Outputs) (answer : Answer) (step : NodeStep ticket old (Request conn words) outputs new)
    → outputs.response ≡ Replied answer → IsHeard old conn words step.outcome
heard ticket old new conn words outputs answer step answers =
    is_heard old conn words step.outcome answer (may_ask (connection_at old.connections conn)) refl step.may_come
    (sym (ap (λ (o : Outputs). o.response) step.outputs_are) ∙ answers)

-- CLUSTER NUMBERED introduces
pub introduces : (ticket : ℕ) (old new : NodeState) (conn : Conn) (words : List (List ℕ)) (outputs : Outputs) (answer : Answer) → NodeStep ticket old (Request conn words) outputs new
    → outputs.response ≡ Replied answer → words ≡ numbered_words → introduced_at new.connections conn ≡ true
introduces ticket old new conn words outputs answer step answers is =
    let read : command_of words ≡ Ok (Cluster cluster.Numbered) = ap command_of is in
    ap (λ (node : NodeState). introduced_at node.connections conn) step.state
    ∙ ap (λ (o : Outcome). introduced_at o.state.connections conn) (heard ticket old new conn words outputs answer step answers).answering.comes_to
    ∙ ap (λ (node : NodeState). introduced_at node.connections conn) (with_written_state (request_outcome old conn (command_of words)) (written old conn words) (heard ticket old new conn words outputs answer step answers).answering.dropped)
    ∙ ap (λ (command : Result Command CommandFault). introduced_at (request_outcome old conn command).state.connections conn) read
    ∙ newly_introduced (using_up old conn).connections conn (λ connection. record connection { numbered = true }) (λ connection. refl) (λ connection. refl)

-- whoever is introduced, and answered, is told the numbers of moves
pub is_told_numbers : (ticket : ℕ) (old new : NodeState) (conn : Conn) (words : List (List ℕ)) (outputs : Outputs) (answer : Answer) → NodeStep ticket old (Request conn words) outputs new
    → outputs.response ≡ Replied answer → introduced_at old.connections conn ≡ true → is_numbered (connection_at old.connections conn) ≡ true
is_told_numbers ticket old new conn words outputs answer step answers =
    by_found (connection_at old.connections conn) (heard ticket old new conn words outputs answer step answers).may
  where
    by_found : (found : Option Connection) → may_ask found ≡ true → is_introduced found ≡ true → is_numbered found ≡ true
    by_found None may is = absurd (true≢false (sym may))
    by_found (Some connection) may is = is
