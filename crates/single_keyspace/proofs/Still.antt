-- A master that hands over writes nothing: its stream stays as it is, as long as no slot is lost.
use Rattle.std.proofs.Common.{◌≡◌, ◌==◌, ◌&&◌, ℕ, List, [], ◌∷◌, map, not, Bool, true, false, cond, Option, Some, None, length, refl, sym, ap, subst, ◌∙◌, inl, inr, arith}
use Rattle.std.proofs.lemmas.Bool.{both_ways, cases_eq, eq-eqb, ne_eqb}
use Rattle.std.specs.FinMap as fin_map
use Rattle.std.specs.Prelude.{MatchBool, Result, Ok, Err, filter, is_some}
use Rattle.bus.specs.Stream.{StreamView, is_same}
use Rattle.bus.specs.declared.message.Body.{Body}
use Rattle.bus.specs.declared.bodies.ElectionBody.TheVariants as of_election
use Rattle.bus.specs.declared.bodies.SlotsBody.TheVariants as of_slots
use Rattle.bus.specs.declared.bodies.StreamBody.TheVariants as of_stream
use Rattle.bus.specs.declared.message.Body.TheVariants as body
use Rattle.bus.specs.declared.bodies.Handing.{Handing}
use Rattle.bus.specs.declared.bodies.Replaced.{Replaced}
use Rattle.command_table.specs.Keys.{data_keys, is_data_write}
use Rattle.command_table.specs.Table.{command_of}
use Rattle.command_table.specs.declared.command.ClusterCommand.{ClusterCommand}
use Rattle.command_table.specs.declared.command.ClusterCommand.TheVariants as cluster
use Rattle.command_table.specs.declared.command.Command.{Command}
use Rattle.command_table.specs.declared.command.Command.TheVariants.{Data, Cluster}
use Rattle.command_table.specs.declared.command.DataCommand.{DataCommand}
use Rattle.command_table.specs.declared.command.SlotOrder.{SlotOrder}
use Rattle.command_table.specs.declared.command.SlotOrder.TheVariants.{Importing, Migrating, Node}
use Rattle.command_table.specs.declared.fault.CommandFault.{CommandFault}
use Rattle.connections.specs.Connections.{connection_at, may_ask}
use Rattle.connections.specs.declared.conn.Conn.{Conn}
use Rattle.connections.specs.declared.conn.Connection.{Connection}
use Rattle.election.specs.Electing.{counted, elected}
use Rattle.election.specs.Health.{Candidate}
use Rattle.election.specs.declared.running.Elected.{Elected}
use Rattle.key_slot.specs.Slot.{hash_slot}
use Rattle.keyspace.specs.declared.value.Value.{Value}
use Rattle.migrate.specs.Acknowledging.{acknowledged_keys}
use Rattle.migrate.specs.Arriving.{arrival_verdict}
use Rattle.migrate.specs.declared.sending.CopyVerdict.{CopyVerdict}
use Rattle.migrate.specs.declared.sending.CopyVerdict.TheVariants as copies
use Rattle.redirect.specs.declared.asked.Asking.{Asking}
use Rattle.redirect.specs.declared.decision.Decision.{Decision}
use Rattle.redirect.specs.declared.decision.Decision.TheVariants.{Serve, ServeImport, CrossSlot, Down, TryAgain, Ask, Moved}
use Rattle.slot_state.specs.Moves.{move_of}
use Rattle.slot_state.specs.declared.ending.NodeVerdict.{NodeVerdict}
use Rattle.slot_state.specs.declared.ending.NodeVerdict.TheVariants as ending
use Rattle.slot_state.specs.declared.running.Move.{Move}
use Rattle.slot_state.specs.declared.copy_id.CopyId.{CopyId}
use Rattle.slot_table.specs.Claims.{merged}
use Rattle.slot_table.specs.Table.{owner_at}
use Rattle.slot_table.specs.declared.entry.SlotEntry.{SlotEntry}
use Rattle.slot_table.specs.declared.runs.Run.{Run}
use Rattle.promoted_prefix.proofs.Keyed.{IsKeyed, words_keyed}
use Rattle.promoted_prefix.proofs.Writes.{written_if}
use Rattle.node_step.proofs.Kept.{synced_is}
use Rattle.node_step.proofs.OfSlots.{request_is_of_slots}
use Rattle.node_step.proofs.Ready.{in_election_keeps, ready_keeps}
use Rattle.node_step.specs.Claiming.{claimed_by, is_lost, is_owner}
use Rattle.node_step.specs.Commands.{asked_of, command_outcome, decision_on}
use Rattle.node_step.specs.Copies.{acknowledged, copy_outcome, copy_verdict_on, first_slot, keep_limits, node_at, those_there}
use Rattle.node_step.specs.Failing.{a_tick_older, members_of}
use Rattle.node_step.specs.Handovers.{failover, handing_over, may_pause}
use Rattle.node_step.specs.Messages.{Choice, ready, taken, taken_so, written_by_message}
use Rattle.node_step.specs.Orders.{ending_outcome, ending_verdict}
use Rattle.node_step.specs.Outcome.{Outcome, silent}
use Rattle.node_step.specs.Promotion.{handed_promotion, promotion}
use Rattle.node_step.specs.Requests.{asking_of, by_command, cluster_outcome, is_numbered, node_with_id, order_outcome, request_outcome, using_up}
use Rattle.node_step.specs.Roles.{is_just}
use Rattle.node_step.specs.State.{NodeState, is_replica, own_master}
use Rattle.node_step.specs.Step.{IsAnswering, IsClosing, MayCome, written as written_at}
use Rattle.node_step.specs.Streams.{Requests, deletion, with_written, written_by_ack, written_by_copy, written_by_loss, written_by_request}
use Rattle.node_step.specs.Ticks.{older}
use Rattle.node_step.specs.Voting.{due_epoch, if_elected}
use Rattle.node_step.specs.declared.event.Event.{Event}
use Rattle.node_step.specs.declared.event.Event.TheVariants.{Open, Close, Request, Deliver, Tick}
use Rattle.single_keyspace.proofs.Replicas.{IdleStands}
use Rattle.single_keyspace.proofs.Roles.{no_messages_from_master}
use Rattle.single_keyspace.proofs.Seen.{no_some}
use Rattle.single_keyspace.proofs.Served.{decided_in}
use Rattle.single_keyspace.proofs.Verdicts.{serves, serves_import}

-- ---- requests

module _ {n : ℕ} (node : NodeState) (stands : IdleStands n node) (words : List (List ℕ)) where
  abbrev IsUnwritten : Result Command CommandFault → Outcome → Type 0
  IsUnwritten command outcome = written_by_request words command outcome.response ≡ []

  unwritten : (which : DataCommand) → command_of words ≡ Ok (Data which) → (fails : Bool) → data_keys which ≡ [] → written_if (is_data_write which) fails words ≡ []
  unwritten which reads fails none = ap (λ b. written_if b fails words) (subst IsKeyed reads (words_keyed words) none)

  command_unwritten : (which : DataCommand) → command_of words ≡ Ok (Data which) → (asking : Asking) (numbered : Bool) (why : Decision) → decision_on node which asking ≡ why → IsUnwritten (Ok (Data which)) (command_outcome node numbered which why)
  command_unwritten which reads asking numbered Serve is =
      unwritten which reads _
      (elim (decided_in node which asking Serve is) [
        | inl none ↦ none
        | inr (inl cross) ↦ absurd (grind arith)
        | inr (inr found) ↦
            elim (serves found.0 (owner_at node.table found.0) (move_of node.moves found.0) node.number (asked_of node which asking) found.1.decides) [
              | inl own ↦ absurd (both_ways (is_some node.paused) own.2 (stands.rests found.0 (own.1 ∙ ap Some stands.number_is)))
              | inr leaving ↦ absurd (no_some (stands.idle found.0) leaving.4)
            ]
      ])
  command_unwritten which reads asking numbered (ServeImport number) is =
      unwritten which reads _
      (elim (decided_in node which asking (ServeImport number) is) [
        | inl none ↦ none
        | inr (inl cross) ↦ absurd (grind arith)
        | inr (inr found) ↦
            let facts = serves_import found.0 (owner_at node.table found.0) (move_of node.moves found.0) node.number (asked_of node which asking) number found.1.decides in
            absurd (no_some (stands.idle found.0) facts.3)
      ])
  command_unwritten which reads asking numbered CrossSlot is = refl
  command_unwritten which reads asking numbered Down is = refl
  command_unwritten which reads asking numbered (TryAgain reason) is = refl
  command_unwritten which reads asking numbered (Ask slot to number) is = refl
  command_unwritten which reads asking numbered (Moved slot to) is = refl

  ending_unwritten : (command : Result Command CommandFault) (slot : ℕ) (verdict : NodeVerdict) → IsUnwritten command (ending_outcome node slot verdict)
  ending_unwritten command slot (ending.Ends drained) = refl
  ending_unwritten command slot ending.UnknownNode = refl
  ending_unwritten command slot ending.OldMove = refl
  ending_unwritten command slot ending.NotDrained = refl
  ending_unwritten command slot ending.IsOwner = refl
  ending_unwritten command slot ending.NotYetOwner = refl

  order_unwritten : (command : Result Command CommandFault) (slot : ℕ) (order : SlotOrder) (other number : Option ℕ) → IsUnwritten command (order_outcome node slot order other number)
  order_unwritten command slot Importing other number = refl
  order_unwritten command slot Migrating other number = refl
  order_unwritten command slot Node other number = ending_unwritten command slot (ending_verdict node slot other number)

  copy_unwritten : (command : Result Command CommandFault) (conn : Conn) (slot : ℕ) (keys : List (List ℕ)) (ticks : ℕ) (verdict : CopyVerdict) → IsUnwritten command (copy_outcome node conn slot keys ticks verdict)
  copy_unwritten command conn slot keys ticks copies.CrossSlot = refl
  copy_unwritten command conn slot keys ticks copies.WrongTarget = refl
  copy_unwritten command conn slot keys ticks copies.NoKey = refl
  copy_unwritten command conn slot keys ticks copies.CopyOutstanding = refl
  copy_unwritten command conn slot keys ticks copies.Exhausted = refl
  copy_unwritten command conn slot keys ticks (copies.SendAgain to number copy) = refl
  copy_unwritten command conn slot keys ticks (copies.Copies to number copy) = refl

  failover_unwritten : (command : Result Command CommandFault) (master : Option ℕ) → IsUnwritten command (failover node master)
  failover_unwritten command None = refl
  failover_unwritten command (Some master) = refl

  cluster_unwritten : (command : Result Command CommandFault) (conn : Conn) (which : ClusterCommand) → IsUnwritten command (cluster_outcome node conn which)
  cluster_unwritten command conn (cluster.KeySlot key) = refl
  cluster_unwritten command conn cluster.MyId = refl
  cluster_unwritten command conn cluster.Slots = refl
  cluster_unwritten command conn (cluster.CountKeysInSlot slot) = refl
  cluster_unwritten command conn (cluster.GetKeysInSlot slot count) = refl
  cluster_unwritten command conn (cluster.SlotState slot) = refl
  cluster_unwritten command conn (cluster.SetSlot slot order id number) = order_unwritten command slot order (node_with_id node id) number
  cluster_unwritten command conn cluster.Numbered = refl
  cluster_unwritten command conn cluster.Failover = failover_unwritten command (own_master node)
  cluster_unwritten command conn (cluster.Asking number) = refl
  cluster_unwritten command conn (cluster.Migrate host port keys timeout) = copy_unwritten command conn (first_slot keys) (those_there node.keyspace keys) timeout (copy_verdict_on node keys (node_at node host port))

  words_unwritten : (conn : Conn) (connection : Option Connection) (command : Result Command CommandFault) → command_of words ≡ command → IsUnwritten command (by_command node conn connection command)
  words_unwritten conn connection (Err fault) reads = refl
  words_unwritten conn connection (Ok (Cluster which)) reads = cluster_unwritten (Ok (Cluster which)) conn which
  words_unwritten conn connection (Ok (Data which)) reads = command_unwritten which reads (asking_of connection) (is_numbered connection) (decision_on node which (asking_of connection)) refl

-- ---- what is put round a step

-- nothing is written
with_written_still : (stream : StreamView) (outcome : Outcome) (requests : Requests) (dropped : ℕ) → requests ≡ [] → outcome.state.stream ≡ stream → (with_written outcome requests dropped).state.stream ≡ stream
with_written_still stream outcome requests dropped none is = subst (λ (r : Requests). (with_written outcome r dropped).state.stream ≡ stream) (sym none) is

-- ---- messages

-- a message claims these slots
abbrev pub IsClaimOf : Body → List (Run ℕ) → Type 0
IsClaimOf said runs = (replaced : Option Replaced) × (said ≡ body.Slots (of_slots.Claim runs replaced))

-- no slot of the node's own is lost by claims of another one
abbrev pub KeepsOwn : NodeState → List (Option SlotEntry) → Type 0
KeepsOwn node table = (slot : ℕ) → owner_at node.table slot ≡ Some node.number → owner_at table slot ≡ Some node.number

module _ (node : NodeState) (table : List (Option SlotEntry)) (keeps : KeepsOwn node table) where
  owned_or_not : (owner : Option ℕ) (number : ℕ) → is_owner owner number ≡ true → owner ≡ Some number
  owned_or_not None number is = absurd (both_ways false refl is)
  owned_or_not (Some owner) number is =
      elim (cases_eq owner number) [
        | inl same ↦ ap Some same
        | inr apart ↦ absurd (both_ways (owner == number) (ne_eqb owner number apart) is)
      ]

  not_lost : (slot : ℕ) → is_lost node table slot ≡ false
  not_lost slot = by_own (is_owner (owner_at node.table slot) node.number) refl
    where
      by_own : (own : Bool) → is_owner (owner_at node.table slot) node.number ≡ own → (own && not (is_owner (owner_at table slot) node.number)) ≡ false
      by_own false other = refl
      by_own true own =
          ap (λ o. not (is_owner o node.number)) (keeps slot (owned_or_not (owner_at node.table slot) node.number own)) ∙ ap not (eq-eqb node.number node.number refl)

  loses_nothing : (keys : List (List ℕ)) → map deletion (filter (λ key. is_lost node table (hash_slot key)) keys) ≡ []
  loses_nothing [] = refl
  loses_nothing (key ∷ keys) =
      ap (λ b. map deletion (cond b (key ∷ filter (λ key. is_lost node table (hash_slot key)) keys) (filter (λ key. is_lost node table (hash_slot key)) keys))) (not_lost (hash_slot key)) ∙ loses_nothing keys

module _ {n : ℕ} (node : NodeState) (stands : IdleStands n node) (master : is_replica node ≡ false) where
  abbrev IsStill : Outcome → Type 0
  IsStill outcome = outcome.state.stream ≡ node.stream

  grant_still : (candidate : Candidate) (won : Option Elected) → IsStill (if_elected (record node { candidate = candidate }) won)
  grant_still candidate None = refl
  grant_still candidate (Some won) = by_plan candidate.planned
    where
      failed : (own : Option ℕ) → is_some own ≡ false → IsStill (promotion (record node { candidate = candidate }) won.epoch own)
      failed None is = refl
      failed (Some m) is = absurd (both_ways true is refl)

      handed : (own : Option ℕ) (told : Option Handing) → is_some own ≡ false → IsStill (handed_promotion (record node { candidate = candidate }) won.epoch own told)
      handed None told is = refl
      handed (Some m) told is = absurd (both_ways true is refl)

      by_plan : (planned : Bool) → IsStill (cond planned (handed_promotion (record node { candidate = candidate }) won.epoch (own_master node) node.handover.note) (promotion (record node { candidate = candidate }) won.epoch (own_master node)))
      by_plan true = handed (own_master node) node.handover.note master
      by_plan false = failed (own_master node) master

  arrived_still : (from : ℕ) (id : CopyId) (pairs : List (List ℕ × Value)) (move : Option Move) → move ≡ None
      → written_by_copy node.keyspace pairs (arrival_verdict move from id.number id.copy (keep_limits pairs)) ≡ []
  arrived_still from id pairs move none = ap (λ m. written_by_copy node.keyspace pairs (arrival_verdict m from id.number id.copy (keep_limits pairs))) none

  not_followed : (after : NodeState) (own : Bool) → own ≡ false → IsStill (silent (cond own after node))
  not_followed after true is = absurd (both_ways true is refl)
  not_followed after false is = refl

  claims_still : (from : ℕ) (runs : List (Run ℕ)) (own : Bool) → (from == node.number) ≡ own → ((from == node.number) ≡ false → KeepsOwn node (merged node.table runs from))
      → (dropped : ℕ) → IsStill (with_written (cond own (silent node) (claimed_by node (merged node.table runs from))) (cond own [] (written_by_loss node (merged node.table runs from))) dropped)
  claims_still from runs true own keeps dropped = refl
  claims_still from runs false other keeps dropped =
      with_written_still node.stream (claimed_by node (merged node.table runs from)) (written_by_loss node (merged node.table runs from)) dropped
      (loses_nothing node (merged node.table runs from) (keeps other) (fin_map.keys node.keyspace)) refl

  pause_still : (from : ℕ) (b : Bool) → IsStill (cond b (handing_over node from) (silent node))
  pause_still from true = refl
  pause_still from false = refl

  acknowledged_still : (from : ℕ) (id : CopyId) (dropped : ℕ) (move : Option Move) → move ≡ None
      → IsStill (with_written (acknowledged node id (acknowledged_keys move from id.number id.copy)) (written_by_ack (acknowledged_keys move from id.number id.copy)) dropped)
  acknowledged_still from id dropped move none =
      subst (λ (m : Option Move). IsStill (with_written (acknowledged node id (acknowledged_keys m from id.number id.copy)) (written_by_ack (acknowledged_keys m from id.number id.copy)) dropped)) (sym none) refl

  pub taken_still : (from : ℕ) (choice : Choice) (said : Body) → ((runs : List (Run ℕ)) → (from == node.number) ≡ false → IsClaimOf said runs → KeepsOwn node (merged node.table runs from)) → IsStill (taken node from choice said)
  taken_still from choice (body.Slots (of_slots.Copy id pairs)) keeps =
      with_written_still node.stream (taken_so node from choice (body.Slots (of_slots.Copy id pairs))) (written_by_message node from (body.Slots (of_slots.Copy id pairs))) choice.dropped
      (arrived_still from id pairs (move_of node.moves id.slot) (stands.idle id.slot)) refl
  taken_still from choice (body.Slots (of_slots.Ack id)) keeps = acknowledged_still from id choice.dropped (move_of node.moves id.slot) (stands.idle id.slot)
  taken_still from choice (body.Slots (of_slots.Drained slot number epoch)) keeps = refl
  taken_still from choice (body.Slots (of_slots.Claim runs replaced)) keeps = claims_still from runs (from == node.number) refl (λ other. keeps runs other (replaced, refl)) choice.dropped
  taken_still from choice (body.Report suspects) keeps = refl
  taken_still from choice (body.Election (of_election.Candidacy request)) keeps = refl
  taken_still from choice (body.Election (of_election.Grant epoch)) keeps = grant_still (counted node.candidate (members_of node) from epoch) (elected node.candidate (members_of node) from epoch)
  taken_still from choice (body.Stream (of_stream.Sync sync)) keeps = synced_is IsStill node from sync refl refl
  taken_still from choice (body.Stream (of_stream.Piece piece)) keeps = not_followed _ (is_just (own_master node) from) (no_messages_from_master (own_master node) from master)
  taken_still from choice (body.Stream (of_stream.Snapshot snapshot)) keeps = not_followed _ (is_just (own_master node) from) (no_messages_from_master (own_master node) from master)
  taken_still from choice (body.Election (of_election.Pause stream)) keeps = pause_still from (may_pause node from stream)
  taken_still from choice (body.Election (of_election.Paused handing)) keeps = not_followed _ (is_replica node && is_same handing.stream node.stream.held.id) (ap (λ (b : Bool). b && is_same handing.stream node.stream.held.id) master)

-- ---- any event

-- what a master hands over, where it hands over already
module _ {n : ℕ} (node : NodeState) (stands : IdleStands n node) (master : is_replica node ≡ false) where
  -- claims that it takes leave it its slots
  abbrev pub KeepsBy : Event → Type 0
  KeepsBy (Deliver message) = (runs : List (Run ℕ)) → (message.from == node.number) ≡ false → IsClaimOf message.body runs → KeepsOwn node (merged node.table runs message.from)
  KeepsBy other = Unit {0}

  idle_so : (heard : NodeState) → heard.number ≡ node.number → heard.table ≡ node.table → heard.moves ≡ node.moves → is_replica heard ≡ is_replica node → heard.paused ≡ node.paused → IdleStands n heard
  idle_so heard number table moves role paused = record {
    number_is = number ∙ stands.number_is;
    slots = ap (λ (t : List (Option SlotEntry)). length t) table ∙ stands.slots;
    bars = elim stands.bars [ inl is ↦ inl (role ∙ is) | inr is ↦ inr (ap is_some paused ∙ is) ];
    rests = λ slot is. ap is_some paused ∙ stands.rests slot (sym (ap (λ t. owner_at t slot) table) ∙ is);
    idle = λ slot. ap (λ ms. move_of ms slot) moves ∙ stands.idle slot;
  }

  pub stream_still : (event : Event) (outcome : Outcome) → MayCome node event outcome → KeepsBy event → outcome.state.stream ≡ node.stream
  stream_still Open outcome may keeps = subst (λ (o : Outcome). o.state.stream ≡ node.stream) (sym may.comes_to) refl
  stream_still (Close conn) outcome may keeps = by_open (is_some (connection_at node.connections conn)) may
    where
      by_open : (is_open : Bool) → MatchBool is_open (IsClosing node conn outcome) (outcome ≡ silent node) → outcome.state.stream ≡ node.stream
      by_open false may = ap (λ (o : Outcome). o.state.stream) may
      by_open true may = ap (λ (o : Outcome). o.state.stream) may.comes_to
  stream_still (Request conn words) outcome may keeps = by_asking (may_ask (connection_at node.connections conn)) may
    where
      by_asking : (asks : Bool) → MatchBool asks (IsAnswering node conn words outcome) (outcome ≡ silent node) → outcome.state.stream ≡ node.stream
      by_asking false may = ap (λ (o : Outcome). o.state.stream) may
      by_asking true may =
          ap (λ (o : Outcome). o.state.stream) may.comes_to
          ∙ with_written_still node.stream (request_outcome node conn (command_of words)) (written_at node conn words) may.dropped
          (words_unwritten (using_up node conn) (idle_so (using_up node conn) refl refl refl refl refl) words conn (connection_at node.connections conn) (command_of words) refl)
          (request_is_of_slots (λ s. s.stream ≡ node.stream) (using_up node conn) (λ keyspace table moves current handover connections known noted. refl) conn (connection_at node.connections conn) (command_of words)).state
  stream_still (Deliver message) outcome may keeps = ap (λ (o : Outcome). o.state.stream) may.comes_to ∙ by_target (message.to == node.number)
    where
      by_target : (b : Bool) → (cond b (taken (ready node message) message.from may.choice message.body) (silent node)).state.stream ≡ node.stream
      by_target false = refl
      by_target true =
          ready_keeps (λ (heard : NodeState). (taken heard message.from may.choice message.body).state.stream ≡ node.stream) node message
          (λ epoch masters health candidate handover role election.
          let heard : NodeState = record node { current_epoch = epoch; masters = masters; health = health; candidate = candidate; handover = handover } in
          taken_still heard (idle_so heard refl refl refl role refl) (role ∙ master) message.from may.choice message.body keeps)
  stream_still Tick outcome may keeps =
      ap (λ (o : Outcome). o.state.stream) may.comes_to
      ∙ in_election_keeps (λ s. s.stream ≡ node.stream) (a_tick_older (older node)) (due_epoch (a_tick_older (older node))) (λ current candidate handover. refl)
