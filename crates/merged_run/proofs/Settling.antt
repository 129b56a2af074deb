-- Where no slot begins to come to a node, none ever comes.
use Rattle.std.proofs.Common.{◌≡◌, ◌==◌, not, ◌&&◌, ℕ, Bool, true, false, true≢false, cond, List, [], ◌∷◌, Option, Some, None, refl, sym, ap, subst, ◌∙◌, inl, inr}
use Rattle.std.proofs.lemmas.Bool.{cases_eq}
use Rattle.std.proofs.lemmas.List.Elements.{All-head, All-tail}
use Rattle.std.specs.FinMap as map
use Rattle.std.specs.Ordering.{nat_cmp}
use Rattle.std.specs.Prelude.{MatchBool, Result, Ok, Err, is_some, slice_get, slice_set}
use Rattle.bus.specs.Stream.{is_same}
use Rattle.bus.specs.declared.message.Body.{Body}
use Rattle.bus.specs.declared.bodies.ElectionBody.TheVariants.{Candidacy as Requested, Grant, Pause, Paused}
use Rattle.bus.specs.declared.bodies.SlotsBody.TheVariants.{Copy, Ack, Drained, Claim}
use Rattle.bus.specs.declared.bodies.StreamBody.TheVariants.{Sync, Piece, Snapshot}
use Rattle.bus.specs.declared.message.Body.TheVariants.{Slots, Stream, Election, Report}
use Rattle.bus.specs.declared.bodies.Handing.{Handing}
use Rattle.bus.specs.declared.message.Message.{Message}
use Rattle.bus.specs.declared.stream_id.StreamId.{StreamId}
use Rattle.cluster_config.specs.Config.{ClusterConfig}
use Rattle.command_table.specs.Table.{command_of}
use Rattle.command_table.specs.declared.command.ClusterCommand.{ClusterCommand}
use Rattle.command_table.specs.declared.command.ClusterCommand.TheVariants as cluster
use Rattle.command_table.specs.declared.command.Command.{Command}
use Rattle.command_table.specs.declared.command.Command.TheVariants.{Data, Cluster}
use Rattle.command_table.specs.declared.command.DataCommand.{DataCommand}
use Rattle.command_table.specs.declared.command.SlotOrder.{SlotOrder}
use Rattle.command_table.specs.declared.command.SlotOrder.TheVariants.{Importing, Migrating, Node}
use Rattle.command_table.specs.declared.fault.CommandFault.{CommandFault}
use Rattle.connections.specs.Connections.{connection_at, may_ask}
use Rattle.connections.specs.declared.conn.Conn.{Conn}
use Rattle.connections.specs.declared.conn.Connection.{Connection}
use Rattle.election.specs.Electing.{elected}
use Rattle.election.specs.Health.{Candidate}
use Rattle.election.specs.declared.running.Elected.{Elected}
use Rattle.key_slot.specs.Slot.{hash_slot}
use Rattle.migrate.specs.Acknowledging.{acknowledged_keys, unfrozen}
use Rattle.migrate.specs.Arriving.{after_arrival, changed_at, one_more}
use Rattle.migrate.specs.Draining.{note_drained}
use Rattle.migrate.specs.Losing.{after_loss, is_leaving}
use Rattle.migrate.specs.Sending.{after_copy_order}
use Rattle.migrate.specs.declared.arriving.ArrivalVerdict.{ArrivalVerdict}
use Rattle.migrate.specs.declared.arriving.ArrivalVerdict.TheVariants.{Installs, Repeats, Ignored}
use Rattle.migrate.specs.declared.sending.CopyVerdict.{CopyVerdict}
use Rattle.migrate.specs.declared.sending.CopyVerdict.TheVariants as copies
use Rattle.redirect.specs.Asked.{Asked}
use Rattle.redirect.specs.Decision.{by_keys, decision_at, has_other_slot}
use Rattle.redirect.specs.declared.decision.Decision.{Decision}
use Rattle.redirect.specs.declared.decision.Decision.TheVariants.{Serve, ServeImport, CrossSlot, Down, TryAgain, Ask, Moved}
use Rattle.single_keyspace.proofs.Maps.{gone_apart, gone_here, put_apart, put_here, retained_here}
use Rattle.single_keyspace.proofs.Seen.{no_some, same_some, set_apart, set_here}
use Rattle.single_keyspace.proofs.Start.{first_node}
use Rattle.single_keyspace.proofs.Verdicts.{serves_import}
use Rattle.slot_state.specs.Moves.{Moves, begun, ended, move_of}
use Rattle.slot_state.specs.declared.ending.NodeVerdict.{NodeVerdict}
use Rattle.slot_state.specs.declared.ending.NodeVerdict.TheVariants as ending
use Rattle.slot_state.specs.declared.importing.ImportVerdict.{ImportVerdict}
use Rattle.slot_state.specs.declared.importing.ImportVerdict.TheVariants as import
use Rattle.slot_state.specs.declared.migrating.MigrateVerdict.{MigrateVerdict}
use Rattle.slot_state.specs.declared.migrating.MigrateVerdict.TheVariants as migrate
use Rattle.slot_state.specs.declared.running.Move.{Move}
use Rattle.slot_state.specs.declared.running.Move.TheVariants.{Leaves, Comes}
use Rattle.slot_state.specs.declared.copy_id.CopyId.{CopyId}
use Rattle.slot_table.specs.Table.{owner_at}
use Rattle.slot_table.specs.declared.entry.SlotEntry.{SlotEntry}
use Rattle.node_step.specs.Claiming.{claimed_by}
use Rattle.node_step.specs.Commands.{asked_of, command_outcome, decision_on}
use Rattle.node_step.specs.Copies.{acknowledged, copy_outcome, copy_verdict_on, first_slot, node_at, those_there}
use Rattle.node_step.proofs.Kept.{pieced_keeps, with_written_keeps, restored_keeps, synced_is}
use Rattle.node_step.proofs.Ready.{in_election_keeps, ready_keeps}
use Rattle.node_step.specs.Failing.{a_tick_older, members_of}
use Rattle.node_step.specs.Messages.{Choice, delivered, ready, taken, taken_so, written_by_message}
use Rattle.node_step.specs.Orders.{ending_outcome, ending_verdict, import_outcome, migrate_outcome}
use Rattle.node_step.specs.Outcome.{Outcome, silent}
use Rattle.node_step.specs.Requests.{asking_of, by_command, cluster_outcome, is_numbered, node_with_id, order_outcome, request_outcome, using_up}
use Rattle.node_step.specs.Handovers.{asked_to_pause, failover, handing_over, is_at_end, may_pause, noting, told_of_handing}
use Rattle.node_step.specs.Promotion.{handed_promotion, promotion, promotion_to, table_handed}
use Rattle.node_step.specs.State.{NodeState, is_replica, own_master}
use Rattle.node_step.specs.Step.{IsAnswering, IsClosing, NodeStep, written}
use Rattle.node_step.specs.Streams.{Requests, with_written}
use Rattle.node_step.specs.Ticks.{older, tick}
use Rattle.node_step.specs.Voting.{due_epoch, if_elected}
use Rattle.node_step.specs.declared.event.Event.{Event}
use Rattle.node_step.specs.declared.event.Event.TheVariants.{Open, Close, Request, Deliver, Tick}
use Rattle.node_step.specs.declared.outputs.Outputs.{Outputs}
use Rattle.node_step.specs.declared.response.Response.{Response}
use Rattle.world_run.specs.Executed.{KeepsAsking, MayAsk, answered, answered_with}
use Rattle.world_run.specs.Run.{Deed, Entry, Goes, Leads, first_nodes}
use Rattle.world_run.specs.Run.Deed.{Made, Skipped}
use Rattle.merged_run.specs.Settled.{AreSettled, SettledRunsNeedNoAsking, is_import}

-- ---- moves

abbrev comes : Option Move → Bool
comes None = false
comes (Some (Leaves to number copies frozen)) = false
comes (Some (Comes from number copied drained)) = true

-- no slot comes
abbrev IsSettled : Moves → Type 0
IsSettled moves = (slot : ℕ) → comes (move_of moves slot) ≡ false

module _ (moves : Moves) (settled : IsSettled moves) (slot : ℕ) where
  put_settled : (last : Moves) (move : Move) → comes (Some move) ≡ false → last.running ≡ (begun moves slot 0 move).running → IsSettled last
  put_settled last move leaves is other =
      elim (cases_eq other slot) [
        | inl same ↦ ap (λ running. comes (move_of (record last { running = running }) other)) is ∙ ap (λ s. comes (move_of (begun moves slot 0 move) s)) same ∙ ap comes (put_here moves.running slot move) ∙ leaves
        | inr apart ↦ ap (λ running. comes (move_of (record last { running = running }) other)) is ∙ ap comes (put_apart moves.running slot move other apart) ∙ settled other
      ]

  ended_settled : IsSettled (ended moves slot)
  ended_settled other =
      elim (cases_eq other slot) [
        | inl same ↦ ap (λ s. comes (move_of (ended moves slot) s)) same ∙ ap comes (gone_here moves.running slot)
        | inr apart ↦ ap comes (gone_apart moves.running slot other apart) ∙ settled other
      ]

  -- a move becomes one of the same kind
  changed_settled : (change : Move → Move) → ((move : Move) → comes (Some (change move)) ≡ comes (Some move)) → IsSettled (changed_at moves slot change (move_of moves slot))
  changed_settled change same_kind = by_move (move_of moves slot) refl
    where
      by_move : (move : Option Move) → move_of moves slot ≡ move → IsSettled (changed_at moves slot change move)
      by_move None is = settled
      by_move (Some move) is =
          put_settled (changed_at moves slot change (Some move)) (change move) (same_kind move ∙ sym (ap comes is) ∙ settled slot) refl

loss_settled : (moves : Moves) (is_lost : ℕ → Bool) → IsSettled moves → IsSettled (after_loss moves is_lost)
loss_settled moves is_lost settled slot =
    ap comes (retained_here moves.running slot (λ s. not (is_lost s && is_leaving (move_of moves s)))) ∙ by_test (not (is_lost slot && is_leaving (move_of moves slot)))
  where
    by_test : (stays : Bool) → comes (cond stays (move_of moves slot) None) ≡ false
    by_test true = settled slot
    by_test false = refl

-- ---- decisions

abbrev is_coming : Decision → Bool
is_coming (ServeImport number) = true
is_coming _ = false

module _ (table : List (Option SlotEntry)) (moves : Moves) (settled : IsSettled moves) (node : ℕ) (asked : Asked) (number : ℕ) where
  none_comes : (slot : ℕ) → decision_at table moves node slot asked ≡ ServeImport number → ⊥
  none_comes slot is =
      let served = serves_import slot (owner_at table slot) (move_of moves slot) node asked number is in
      true≢false (sym (ap comes served.3) ∙ settled slot)

  by_test : (slot : ℕ) (test : Bool) → cond test CrossSlot (decision_at table moves node slot asked) ≡ ServeImport number → ⊥
  by_test slot true is = true≢false (sym (ap is_coming is))
  by_test slot false is = none_comes slot is

  none_of_keys : (keys : List (List ℕ)) → by_keys table moves node keys asked ≡ ServeImport number → ⊥
  none_of_keys [] is = true≢false (sym (ap is_coming is))
  none_of_keys (key ∷ others) is = by_test (hash_slot key) (has_other_slot (hash_slot key) others) is

-- ---- outcomes

-- no slot comes behind the outcome of a request, and its answer is of no slot that comes
abbrev IsQuiet : List (List ℕ) → Outcome → Type 0
IsQuiet words outcome = (is_import (answered_with words outcome.response) ≡ false → IsSettled outcome.state.moves)
    × ((past : List Entry) (n : ℕ) → MayAsk past n (answered_with words outcome.response))

module _ (words : List (List ℕ)) (node : NodeState) (settled : IsSettled node.moves) where
  abbrev Quiet : Outcome → Type 0
  Quiet = IsQuiet words

  command_quiet : (numbered : Bool) (which : DataCommand) (asking : Option Connection) (why : Decision) → decision_on node which (asking_of asking) ≡ why → Quiet (command_outcome node numbered which why)
  command_quiet numbered which asking Serve is = (λ none. settled, λ past n. tt)
  command_quiet numbered which asking (ServeImport number) is =
      absurd (none_of_keys node.table node.moves settled node.number (asked_of node which (asking_of asking)) number (asked_of node which (asking_of asking)).keys is)
  command_quiet numbered which asking CrossSlot is = (λ none. settled, λ past n. tt)
  command_quiet numbered which asking Down is = (λ none. settled, λ past n. tt)
  command_quiet numbered which asking (TryAgain reason) is = (λ none. settled, λ past n. tt)
  command_quiet numbered which asking (Ask slot to number) is = (λ none. settled, λ past n. tt)
  command_quiet numbered which asking (Moved slot to) is = (λ none. settled, λ past n. tt)

  import_quiet : (slot : ℕ) (verdict : ImportVerdict) → Quiet (import_outcome node slot verdict)
  import_quiet slot import.UnknownNode = (λ none. settled, λ past n. tt)
  import_quiet slot import.Already = (λ none. settled, λ past n. tt)
  import_quiet slot import.Busy = (λ none. settled, λ past n. tt)
  import_quiet slot import.AlreadyOwner = (λ none. settled, λ past n. tt)
  import_quiet slot import.NotOwner = (λ none. settled, λ past n. tt)
  import_quiet slot import.HandingOver = (λ none. settled, λ past n. tt)
  import_quiet slot import.OldMove = (λ none. settled, λ past n. tt)
  import_quiet slot (import.Begins from number) = (λ none. absurd (true≢false none), λ past n. tt)

  migrate_quiet : (slot : ℕ) (verdict : MigrateVerdict) → Quiet (migrate_outcome node slot verdict)
  migrate_quiet slot migrate.UnknownNode = (λ none. settled, λ past n. tt)
  migrate_quiet slot migrate.Already = (λ none. settled, λ past n. tt)
  migrate_quiet slot migrate.Busy = (λ none. settled, λ past n. tt)
  migrate_quiet slot migrate.NotOwner = (λ none. settled, λ past n. tt)
  migrate_quiet slot migrate.HandingOver = (λ none. settled, λ past n. tt)
  migrate_quiet slot migrate.OldMove = (λ none. settled, λ past n. tt)
  migrate_quiet slot (migrate.Begins to number) = (λ none. put_settled node.moves settled slot (begun node.moves slot number (Leaves to number 0 None)) (Leaves to number 0 None) refl refl, λ past n. tt)

  ending_quiet : (slot : ℕ) (verdict : NodeVerdict) → Quiet (ending_outcome node slot verdict)
  ending_quiet slot (ending.Ends drained) = (λ none. ended_settled node.moves settled slot, λ past n. tt)
  ending_quiet slot ending.UnknownNode = (λ none. settled, λ past n. tt)
  ending_quiet slot ending.OldMove = (λ none. settled, λ past n. tt)
  ending_quiet slot ending.NotDrained = (λ none. settled, λ past n. tt)
  ending_quiet slot ending.IsOwner = (λ none. settled, λ past n. tt)
  ending_quiet slot ending.NotYetOwner = (λ none. settled, λ past n. tt)

  order_quiet : (slot : ℕ) (order : SlotOrder) (other number : Option ℕ) → Quiet (order_outcome node slot order other number)
  order_quiet slot Importing other number = import_quiet slot _
  order_quiet slot Migrating other number = migrate_quiet slot _
  order_quiet slot Node other number = ending_quiet slot (ending_verdict node slot other number)

  copy_quiet : (conn : Conn) (slot : ℕ) (keys : List (List ℕ)) (ticks : ℕ) (verdict : CopyVerdict) → Quiet (copy_outcome node conn slot keys ticks verdict)
  copy_quiet conn slot keys ticks copies.CrossSlot = (λ none. settled, λ past n. tt)
  copy_quiet conn slot keys ticks copies.WrongTarget = (λ none. settled, λ past n. tt)
  copy_quiet conn slot keys ticks copies.NoKey = (λ none. settled, λ past n. tt)
  copy_quiet conn slot keys ticks copies.CopyOutstanding = (λ none. settled, λ past n. tt)
  copy_quiet conn slot keys ticks copies.Exhausted = (λ none. settled, λ past n. tt)
  copy_quiet conn slot keys ticks (copies.SendAgain to number copy) = (λ none. settled, λ past n. tt)
  copy_quiet conn slot keys ticks (copies.Copies to number copy) = (λ none. put_settled node.moves settled slot (after_copy_order node.moves slot keys (copies.Copies to number copy)) (Leaves to number copy (Some keys)) refl refl, λ past n. tt)

  failover_quiet : (master : Option ℕ) → Quiet (failover node master)
  failover_quiet None = (λ none. settled, λ past n. tt)
  failover_quiet (Some master) = (λ none. settled, λ past n. tt)

  cluster_quiet : (conn : Conn) (which : ClusterCommand) → Quiet (cluster_outcome node conn which)
  cluster_quiet conn (cluster.KeySlot key) = (λ none. settled, λ past n. tt)
  cluster_quiet conn cluster.MyId = (λ none. settled, λ past n. tt)
  cluster_quiet conn cluster.Slots = (λ none. settled, λ past n. tt)
  cluster_quiet conn (cluster.CountKeysInSlot slot) = (λ none. settled, λ past n. tt)
  cluster_quiet conn (cluster.GetKeysInSlot slot count) = (λ none. settled, λ past n. tt)
  cluster_quiet conn (cluster.SlotState slot) = (λ none. settled, λ past n. tt)
  cluster_quiet conn (cluster.SetSlot slot order id number) = order_quiet slot order (node_with_id node id) number
  cluster_quiet conn cluster.Numbered = (λ none. settled, λ past n. tt)
  cluster_quiet conn cluster.Failover = failover_quiet (own_master node)
  cluster_quiet conn (cluster.Asking number) = (λ none. settled, λ past n. tt)
  cluster_quiet conn (cluster.Migrate host port keys timeout) = copy_quiet conn (first_slot keys) (those_there node.keyspace keys) timeout (copy_verdict_on node keys (node_at node host port))

  words_quiet : (conn : Conn) (connection : Option Connection) (command : Result Command CommandFault) → Quiet (by_command node conn connection command)
  words_quiet conn connection (Err fault) = (λ none. settled, λ past n. tt)
  words_quiet conn connection (Ok (Cluster which)) = cluster_quiet conn which
  words_quiet conn connection (Ok (Data which)) = command_quiet (is_numbered connection) which connection (decision_on node which (asking_of connection)) refl

-- so it is where what was executed is written
with_written_quiet : (words : List (List ℕ)) (outcome : Outcome) (requests : Requests) (dropped : ℕ) → IsQuiet words outcome → IsQuiet words (with_written outcome requests dropped)
with_written_quiet words outcome [] dropped quiet = quiet
with_written_quiet words outcome (request ∷ requests) dropped quiet = quiet

-- ---- messages

noted_kind : (from number epoch : ℕ) (move : Move) → comes (Some (note_drained from number epoch move)) ≡ comes (Some move)
noted_kind from number epoch (Leaves to other copies frozen) = refl
noted_kind from number epoch (Comes source other last drained) = by_test ((source == from) && (other == number))
  where
    by_test : (counts : Bool) → comes (Some (cond counts (Comes source other last (Some epoch)) (Comes source other last drained))) ≡ true
    by_test true = refl
    by_test false = refl

installed_kind : (move : Move) → comes (Some (one_more move)) ≡ comes (Some move)
installed_kind (Leaves to number copies frozen) = refl
installed_kind (Comes from number last drained) = refl

unfrozen_kind : (move : Move) → comes (Some (unfrozen move)) ≡ comes (Some move)
unfrozen_kind (Leaves to number copies frozen) = refl
unfrozen_kind (Comes from number last drained) = refl

module _ (node : NodeState) (settled : IsSettled node.moves) where
  arrival_settled : (slot : ℕ) (verdict : ArrivalVerdict) → IsSettled (after_arrival node.moves slot verdict)
  arrival_settled slot Installs = changed_settled node.moves settled slot one_more installed_kind
  arrival_settled slot Repeats = settled
  arrival_settled slot Ignored = settled

  ack_settled : (id : CopyId) (keys : Option (List (List ℕ))) → IsSettled (acknowledged node id keys).state.moves
  ack_settled id None = settled
  ack_settled id (Some keys) = changed_settled node.moves settled id.slot unfrozen unfrozen_kind

  claim_settled : (own : Bool) (table : List (Option SlotEntry)) → IsSettled (cond own (silent node) (claimed_by node table)).state.moves
  claim_settled true table = settled
  claim_settled false table = loss_settled node.moves _ settled

  grant_settled : (candidate : Candidate) (won : Option Elected) → IsSettled (if_elected (record node { candidate = candidate }) won).state.moves
  grant_settled candidate None = settled
  grant_settled candidate (Some won) = by_plan candidate.planned
    where
      handed : (master : Option ℕ) (told : Option Handing) → IsSettled (handed_promotion (record node { candidate = candidate }) won.epoch master told).state.moves
      handed None told = settled
      handed (Some master) None = settled
      handed (Some master) (Some handing) = by_place (is_at_end node.stream (Some handing))
        where
          by_place : (b : Bool) → IsSettled (cond b (promotion_to (record node { candidate = candidate }) master won.epoch true (table_handed node handing.slots won.epoch)) (silent (record node { candidate = candidate }))).state.moves
          by_place true = settled
          by_place false = settled

      by_master : (master : Option ℕ) → IsSettled (promotion (record node { candidate = candidate }) won.epoch master).state.moves
      by_master None = settled
      by_master (Some master) = settled

      by_plan : (planned : Bool)
          → IsSettled (cond planned (handed_promotion (record node { candidate = candidate }) won.epoch (own_master node) node.handover.note) (promotion (record node { candidate = candidate }) won.epoch (own_master node))).state.moves
      by_plan true = handed (own_master node) node.handover.note
      by_plan false = by_master (own_master node)

  pause_settled : (from : ℕ) (stream : StreamId) → IsSettled (asked_to_pause node from stream).state.moves
  pause_settled from stream = by_test (may_pause node from stream)
    where
      by_test : (b : Bool) → IsSettled (cond b (handing_over node from) (silent node)).state.moves
      by_test true = settled
      by_test false = settled

  noting_settled : (handing : Handing) → IsSettled (told_of_handing node handing).state.moves
  noting_settled handing = by_test (is_replica node && is_same handing.stream node.stream.held.id)
    where
      by_test : (b : Bool) → IsSettled (cond b (record node { handover = noting node.handover handing }) node).moves
      by_test true = settled
      by_test false = settled

  taken_so_settled : (from : ℕ) (choice : Choice) (body : Body) → IsSettled (taken_so node from choice body).state.moves
  taken_so_settled from choice (Slots (Copy id pairs)) = arrival_settled id.slot _
  taken_so_settled from choice (Slots (Ack id)) = ack_settled id (acknowledged_keys (move_of node.moves id.slot) from id.number id.copy)
  taken_so_settled from choice (Slots (Drained slot number epoch)) = changed_settled node.moves settled slot (note_drained from number epoch) (noted_kind from number epoch)
  taken_so_settled from choice (Slots (Claim slots replaced)) = claim_settled (from == node.number) _
  taken_so_settled from choice (Report suspects) = settled
  taken_so_settled from choice (Election (Requested request)) = settled
  taken_so_settled from choice (Election (Grant epoch)) = grant_settled _ (elected node.candidate (members_of node) from epoch)
  taken_so_settled from choice (Stream (Sync sync)) = synced_is (λ (o : Outcome). IsSettled o.state.moves) node from sync settled settled
  taken_so_settled from choice (Stream (Piece piece)) = pieced_keeps (λ (s : NodeState). IsSettled s.moves) node (λ stream keyspace. settled) from piece choice.follower
  taken_so_settled from choice (Stream (Snapshot snapshot)) = restored_keeps (λ (s : NodeState). IsSettled s.moves) node (λ stream keyspace. settled) from snapshot
  taken_so_settled from choice (Election (Pause stream)) = pause_settled from stream
  taken_so_settled from choice (Election (Paused handing)) = noting_settled handing

  taken_settled : (from : ℕ) (choice : Choice) (body : Body) → IsSettled (taken node from choice body).state.moves
  taken_settled from choice body =
      with_written_keeps (λ (s : NodeState). IsSettled s.moves) (taken_so node from choice body) (written_by_message node from body) choice.dropped (λ stream. taken_so_settled from choice body)

delivered_settled : (node : NodeState) (message : Message) (choice : Choice) → IsSettled node.moves → IsSettled (delivered node message choice).state.moves
delivered_settled node message choice settled = by_receiver (message.to == node.number)
  where
    by_receiver : (own : Bool) → IsSettled (cond own (taken (ready node message) message.from choice message.body) (silent node)).state.moves
    by_receiver true =
        ready_keeps (λ (s : NodeState). IsSettled (taken s message.from choice message.body).state.moves) node message
        (λ epoch masters health candidate handover role election. taken_settled (record node { current_epoch = epoch; masters = masters; health = health; candidate = candidate; handover = handover }) settled message.from choice message.body)
    by_receiver false = settled

tick_settled : (node : NodeState) → IsSettled node.moves → IsSettled (tick node).state.moves
tick_settled node settled =
    in_election_keeps (λ (s : NodeState). IsSettled s.moves) (a_tick_older (older node)) (due_epoch (a_tick_older (older node))) (λ current candidate handover. settled)

-- ---- steps

module _ (old : NodeState) (settled : IsSettled old.moves) (outcome : Outcome) where
  same_settled : (other : Outcome) → outcome ≡ other → IsSettled other.state.moves → IsSettled outcome.state.moves
  same_settled other is = subst (λ (o : Outcome). IsSettled o.state.moves) (sym is)

  close_settled : (conn : Conn) (there : Bool) → MatchBool there (IsClosing old conn outcome) (outcome ≡ silent old) → IsSettled outcome.state.moves
  close_settled conn true closes = same_settled _ closes.comes_to settled
  close_settled conn false is = same_settled _ is settled

  request_quiet : (conn : Conn) (words : List (List ℕ)) (asks : Bool) → MatchBool asks (IsAnswering old conn words outcome) (outcome ≡ silent old) → IsQuiet words outcome
  request_quiet conn words true answers =
      subst (IsQuiet words) (sym answers.comes_to)
      (with_written_quiet words (request_outcome old conn (command_of words)) (written old conn words) answers.dropped
      (words_quiet words (using_up old conn) settled conn (connection_at old.connections conn) (command_of words)))
  request_quiet conn words false is = subst (IsQuiet words) (sym is) (λ none. settled, λ past n. tt)

-- behind an entry that obeys no order to import, no slot comes, and its request was of no slot that comes
abbrev GoesOnSo : List Entry → ℕ → Deed → NodeState → Type 0
GoesOnSo past n deed after = IsSettled after.moves × MayAsk past n (answered deed)

step_settled : (past : List Entry) (n ticket : ℕ) (old new : NodeState) (event : Event) (outputs : Outputs) → IsSettled old.moves → NodeStep ticket old event outputs new → is_import (answered (Made event outputs)) ≡ false
    → GoesOnSo past n (Made event outputs) new
step_settled past n ticket old new Open outputs settled step none =
    (subst (λ (s : NodeState). IsSettled s.moves) (sym step.state) (same_settled old settled step.outcome _ step.may_come.comes_to settled), tt)
step_settled past n ticket old new (Close conn) outputs settled step none =
    (subst (λ (s : NodeState). IsSettled s.moves) (sym step.state) (close_settled old settled step.outcome conn (is_some (connection_at old.connections conn)) step.may_come), tt)
step_settled past n ticket old new (Deliver message) outputs settled step none =
    (subst (λ (s : NodeState). IsSettled s.moves) (sym step.state) (same_settled old settled step.outcome _ step.may_come.comes_to (delivered_settled old message step.may_come.choice settled)), tt)
step_settled past n ticket old new Tick outputs settled step none =
    (subst (λ (s : NodeState). IsSettled s.moves) (sym step.state) (same_settled old settled step.outcome _ step.may_come.comes_to (tick_settled old settled)), tt)
step_settled past n ticket old new (Request conn words) outputs settled step none =
    let quiet = request_quiet old settled step.outcome conn words (may_ask (connection_at old.connections conn)) step.may_come in
    let same : outputs.response ≡ step.outcome.response = ap (λ (o : Outputs). o.response) step.outputs_are in (
      subst (λ (s : NodeState). IsSettled s.moves) (sym step.state) (quiet.0 (ap (λ (r : Response). is_import (answered_with words r)) (sym same) ∙ none)),
      subst (λ (r : Response). MayAsk past n (answered_with words r)) (sym same) (quiet.1 past n),
    )

-- ---- runs

-- no slot comes to any of the nodes
abbrev AllSettled : List NodeState → Type 0
AllSettled nodes = (number : ℕ) (node : NodeState) → slice_get nodes number ≡ Some node → IsSettled node.moves

deed_settled : (past : List Entry) (n ticket : ℕ) (old new : NodeState) (deed : Deed) → IsSettled old.moves → Leads past ticket old deed new → is_import (answered deed) ≡ false → GoesOnSo past n deed new
deed_settled past n ticket old new (Made event outputs) settled leads none = step_settled past n ticket old new event outputs settled leads.1 none
deed_settled past n ticket old new Skipped settled same none = (subst (λ (s : NodeState). IsSettled s.moves) (sym same) settled, tt)

keeps_so : (past : List Entry) (nodes : List NodeState) (entries : List Entry) (last : List NodeState) → AllSettled nodes → Goes past nodes entries last → AreSettled entries → KeepsAsking past entries
keeps_so past nodes [] last settled goes are = tt
keeps_so past nodes (entry ∷ entries) last settled (next, step, rest) are =
    let done = deed_settled past entry.node entry.ticket step.before step.after entry.deed (settled entry.node step.before step.was) step.leads
    (All-head (λ (e : Entry). is_import (answered e.deed) ≡ false) entry entries are) in
    (done.1, keeps_so (entry ∷ past) next entries last (settled_after done.0) rest (All-tail (λ (e : Entry). is_import (answered e.deed) ≡ false) entry entries are))
  where
    settled_after : IsSettled step.after.moves → AllSettled next
    settled_after after number node is =
        elim (cases_eq number entry.node) [
          | inl same ↦
              let here : slice_get next number ≡ Some step.after =
              ap (λ (all : List NodeState). slice_get all number) step.is ∙ ap (slice_get (slice_set nodes entry.node step.after)) same ∙ set_here nodes entry.node step.before step.after step.was in
              subst (λ (s : NodeState). IsSettled s.moves) (same_some here is) after
          | inr apart ↦ settled number node (sym (ap (λ (all : List NodeState). slice_get all number) step.is ∙ set_apart nodes entry.node step.after number apart) ∙ is)
        ]

first_settled : (config : ClusterConfig) → AllSettled (first_nodes config)
first_settled config number node is =
    elim (first_node config number) [
      | inl there ↦ subst (λ (s : NodeState). IsSettled s.moves) (same_some there.1 is) (λ slot. ap comes (map.get-empty nat_cmp slot))
      | inr missing ↦ absurd (no_some missing is)
    ]

pub settled_runs_keep : SettledRunsNeedNoAsking
settled_runs_keep config entries run are = keeps_so [] (first_nodes config) entries run.last (first_settled config) run.goes are
