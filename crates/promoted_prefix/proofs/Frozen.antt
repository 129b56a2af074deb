-- Keys that are frozen are short words, whatever a step makes of moves.
use Rattle.std.proofs.Common.{◌≡◌, ◌==◌, ◌&&◌, ℕ, Bool, true, false, cond, not, List, Option, Some, None, Contains, is_some, sym, ap, subst}
use Rattle.std.proofs.lemmas.Cmp.{nat_cmp_total}
use Rattle.std.specs.FinMap as fin_map
use Rattle.std.specs.FinMap.{FinMap, nat_cmp-IsAntisymmetric}
use Rattle.std.specs.Ordering.{eq_by_cmp, nat_cmp}
use Rattle.std.specs.Prelude.{MatchBool, Result, Ok, Err, ⊤}
use Rattle.bus.specs.Stream.{is_same}
use Rattle.bus.specs.declared.message.Body.{Body}
use Rattle.bus.specs.declared.bodies.ElectionBody.TheVariants as of_election
use Rattle.bus.specs.declared.bodies.SlotsBody.TheVariants as of_slots
use Rattle.bus.specs.declared.bodies.StreamBody.TheVariants as of_stream
use Rattle.bus.specs.declared.message.Body.TheVariants as body
use Rattle.bus.specs.declared.bodies.Handing.{Handing}
use Rattle.bus.specs.declared.message.Message.{Message}
use Rattle.bus.specs.declared.stream_id.StreamId.{StreamId}
use Rattle.command_table.specs.Table.{command_of}
use Rattle.command_table.specs.declared.command.ClusterCommand.{ClusterCommand}
use Rattle.command_table.specs.declared.command.ClusterCommand.TheVariants as cluster
use Rattle.command_table.specs.declared.command.Command.{Command}
use Rattle.command_table.specs.declared.command.Command.TheVariants.{Data, Cluster}
use Rattle.command_table.specs.declared.command.DataCommand.{DataCommand}
use Rattle.command_table.specs.declared.command.SlotOrder.{SlotOrder}
use Rattle.command_table.specs.declared.command.SlotOrder.TheVariants.{Importing, Migrating, Node}
use Rattle.command_table.specs.declared.fault.CommandFault.{CommandFault}
use Rattle.connections.specs.Connections.{connection_at, may_ask}
use Rattle.connections.specs.declared.conn.Conn.{Conn}
use Rattle.connections.specs.declared.conn.Connection.{Connection}
use Rattle.election.specs.Electing.{elected}
use Rattle.election.specs.declared.running.Elected.{Elected}
use Rattle.keyspace.specs.declared.value.Value.{Value}
use Rattle.migrate.specs.Acknowledging.{acknowledged_keys, frozen_keys, unfrozen}
use Rattle.migrate.specs.Arriving.{arrival_verdict, changed_at, one_more}
use Rattle.migrate.specs.Draining.{note_drained}
use Rattle.migrate.specs.Losing.{is_leaving}
use Rattle.migrate.specs.declared.arriving.ArrivalVerdict.{ArrivalVerdict}
use Rattle.migrate.specs.declared.arriving.ArrivalVerdict.TheVariants.{Installs, Repeats, Ignored}
use Rattle.migrate.specs.declared.sending.CopyVerdict.{CopyVerdict}
use Rattle.migrate.specs.declared.sending.CopyVerdict.TheVariants as copies
use Rattle.redirect.specs.declared.decision.Decision.{Decision}
use Rattle.redirect.specs.declared.decision.Decision.TheVariants.{Serve, ServeImport, CrossSlot, Down, TryAgain, Ask, Moved}
use Rattle.slot_state.specs.Moves.{Moves, move_of, no_moves}
use Rattle.slot_state.specs.declared.ending.NodeVerdict.{NodeVerdict}
use Rattle.slot_state.specs.declared.ending.NodeVerdict.TheVariants as ending
use Rattle.slot_state.specs.declared.importing.ImportVerdict.{ImportVerdict}
use Rattle.slot_state.specs.declared.importing.ImportVerdict.TheVariants as import
use Rattle.slot_state.specs.declared.migrating.MigrateVerdict.{MigrateVerdict}
use Rattle.slot_state.specs.declared.migrating.MigrateVerdict.TheVariants as migrate
use Rattle.slot_state.specs.declared.running.Move.{Move}
use Rattle.slot_state.specs.declared.running.Move.TheVariants.{Leaves, Comes}
use Rattle.slot_state.specs.declared.copy_id.CopyId.{CopyId}
use Rattle.slot_table.specs.Claims.{merged}
use Rattle.slot_table.specs.declared.runs.Run.{Run}
use Rattle.node_step.proofs.Copied.{are_there}
use Rattle.node_step.proofs.Kept.{pieced_keeps, with_written_keeps, restored_keeps, synced_is}
use Rattle.node_step.proofs.Ready.{in_election_keeps, ready_keeps}
use Rattle.node_step.specs.Claiming.{claim, claimed_by, is_lost}
use Rattle.node_step.specs.Commands.{command_outcome, decision_on}
use Rattle.node_step.specs.Copies.{acknowledged, arrived, copy_outcome, copy_verdict_on, first_slot, keep_limits, node_at, those_there}
use Rattle.node_step.specs.Failing.{a_tick_older, members_of}
use Rattle.node_step.specs.Messages.{Choice, delivered, ready, taken, taken_so, written_by_message}
use Rattle.node_step.specs.Orders.{ending_outcome, ending_verdict, import_outcome, migrate_outcome}
use Rattle.node_step.specs.Outcome.{Outcome, silent}
use Rattle.node_step.specs.Handovers.{asked_to_pause, failover, handing_over, is_at_end, may_pause, noting, told_of_handing}
use Rattle.node_step.specs.Promotion.{handed_promotion, promotion, promotion_to, table_handed}
use Rattle.node_step.specs.Requests.{asking_of, by_command, cluster_outcome, is_numbered, node_with_id, order_outcome, request_outcome, using_up}
use Rattle.node_step.specs.State.{NodeState, is_replica, own_master}
use Rattle.node_step.specs.Step.{IsAnswering, IsClosing, MayCome, written}
use Rattle.node_step.specs.Ticks.{older, tick}
use Rattle.node_step.specs.Voting.{due_epoch, if_elected}
use Rattle.node_step.specs.declared.event.Event.{Event}
use Rattle.node_step.specs.declared.event.Event.TheVariants.{Open, Close, Request, Deliver, Tick}
use Rattle.promoted_prefix.proofs.Short.{IsShort}
use Rattle.promoted_prefix.proofs.Stored.{CanBeMade, key_there_short}

-- the keys are short, if there are some
abbrev pub AreShortKeys : Option (List (List ℕ)) → Type 0
AreShortKeys None = ⊤
AreShortKeys (Some keys) = (key : List ℕ) → Contains keys key → IsShort key

-- that is so of each frozen key
abbrev HasShort : FinMap nat_cmp Move → Type 0
HasShort running = (slot : ℕ) → AreShortKeys (frozen_keys (fin_map.get running slot))

abbrev pub HasShortFrozen : Moves → Type 0
HasShortFrozen moves = HasShort moves.running

-- ---- moves

-- none runs yet
pub none_short : HasShortFrozen no_moves
none_short slot = subst (λ (o : Option Move). AreShortKeys (frozen_keys o)) (sym (fin_map.get-empty nat_cmp slot)) tt

module _ (running : FinMap nat_cmp Move) (short : HasShort running) where
  put : (slot : ℕ) (move : Move) → AreShortKeys (frozen_keys (Some move)) → HasShort (fin_map.insert running slot move)
  put slot move key q = subst (λ (o : Option Move). AreShortKeys (frozen_keys o)) (sym (fin_map.get-insert nat_cmp_total running slot move q)) (by_slot (eq_by_cmp nat_cmp q slot))
    where
      by_slot : (b : Bool) → AreShortKeys (frozen_keys (cond b (Some move) (fin_map.get running q)))
      by_slot true = key
      by_slot false = short q

  if_there : (b : Bool) (slot : ℕ) → AreShortKeys (frozen_keys (cond b (fin_map.get running slot) None))
  if_there true slot = short slot
  if_there false slot = tt

  if_not_gone : (b : Bool) (slot : ℕ) → AreShortKeys (frozen_keys (cond b None (fin_map.get running slot)))
  if_not_gone true slot = tt
  if_not_gone false slot = short slot

  gone : (slot : ℕ) → HasShort (fin_map.remove running slot)
  gone slot q = subst (λ (o : Option Move). AreShortKeys (frozen_keys o)) (sym (fin_map.get-remove nat_cmp_total running slot q)) (if_not_gone (eq_by_cmp nat_cmp q slot) q)

  some_stay : (stays : ℕ → Bool) → HasShort (fin_map.retain_keys running stays)
  some_stay stays q =
      subst (λ (o : Option Move). AreShortKeys (frozen_keys o)) (sym (fin_map.get-retain_keys running stays q (λ x same. ap stays (sym (nat_cmp-IsAntisymmetric q x same))))) (if_there (stays q) q)

-- a change that freezes no key keeps them short
changed_short : (moves : Moves) (slot : ℕ) (change : Move → Move) → ((move : Move) → AreShortKeys (frozen_keys (Some move)) → AreShortKeys (frozen_keys (Some (change move)))) → HasShortFrozen moves
    → HasShortFrozen (changed_at moves slot change (move_of moves slot))
changed_short moves slot change keeps short = by_move (move_of moves slot) (short slot)
  where
    by_move : (move : Option Move) → AreShortKeys (frozen_keys move) → HasShortFrozen (changed_at moves slot change move)
    by_move None key = short
    by_move (Some move) key = put moves.running short slot (change move) (keeps move key)

one_more_short : (move : Move) → AreShortKeys (frozen_keys (Some move)) → AreShortKeys (frozen_keys (Some (one_more move)))
one_more_short (Comes from number last drained) key = tt
one_more_short (Leaves to number made frozen) key = key

unfrozen_short : (move : Move) → AreShortKeys (frozen_keys (Some move)) → AreShortKeys (frozen_keys (Some (unfrozen move)))
unfrozen_short (Comes from number last drained) key = tt
unfrozen_short (Leaves to number made frozen) key = tt

noted_short : (from number epoch : ℕ) (move : Move) → AreShortKeys (frozen_keys (Some move)) → AreShortKeys (frozen_keys (Some (note_drained from number epoch move)))
noted_short from number epoch (Leaves to own made frozen) key = key
noted_short from number epoch (Comes source own last drained) key = by_test (source == from && own == number)
  where
    by_test : (b : Bool) → AreShortKeys (frozen_keys (Some (cond b (Comes source own last (Some epoch)) (Comes source own last drained))))
    by_test true = tt
    by_test false = tt

-- ---- rows

abbrev IsKept : NodeState → Type 0
IsKept node = HasShortFrozen node.moves

abbrev KeepsShort : Outcome → Type 0
KeepsShort outcome = IsKept outcome.state

module _ (node : NodeState) (can : CanBeMade node.keyspace) (short : HasShortFrozen node.moves) where
  command_keeps : (numbered : Bool) (which : DataCommand) (why : Decision) → KeepsShort (command_outcome node numbered which why)
  command_keeps numbered which Serve = short
  command_keeps numbered which (ServeImport number) = short
  command_keeps numbered which CrossSlot = short
  command_keeps numbered which Down = short
  command_keeps numbered which (TryAgain reason) = short
  command_keeps numbered which (Ask slot to number) = short
  command_keeps numbered which (Moved slot to) = short

  import_keeps : (slot : ℕ) (verdict : ImportVerdict) → KeepsShort (import_outcome node slot verdict)
  import_keeps slot import.UnknownNode = short
  import_keeps slot import.Already = short
  import_keeps slot import.Busy = short
  import_keeps slot import.AlreadyOwner = short
  import_keeps slot import.NotOwner = short
  import_keeps slot import.HandingOver = short
  import_keeps slot import.OldMove = short
  import_keeps slot (import.Begins from number) = put node.moves.running short slot (Comes from number 0 None) tt

  migrate_keeps : (slot : ℕ) (verdict : MigrateVerdict) → KeepsShort (migrate_outcome node slot verdict)
  migrate_keeps slot migrate.UnknownNode = short
  migrate_keeps slot migrate.Already = short
  migrate_keeps slot migrate.Busy = short
  migrate_keeps slot migrate.NotOwner = short
  migrate_keeps slot migrate.HandingOver = short
  migrate_keeps slot migrate.OldMove = short
  migrate_keeps slot (migrate.Begins to number) = put node.moves.running short slot (Leaves to number 0 None) tt

  ending_keeps : (slot : ℕ) (verdict : NodeVerdict) → KeepsShort (ending_outcome node slot verdict)
  ending_keeps slot (ending.Ends drained) = gone node.moves.running short slot
  ending_keeps slot ending.UnknownNode = short
  ending_keeps slot ending.OldMove = short
  ending_keeps slot ending.NotDrained = short
  ending_keeps slot ending.IsOwner = short
  ending_keeps slot ending.NotYetOwner = short

  order_keeps : (slot : ℕ) (order : SlotOrder) (other number : Option ℕ) → KeepsShort (order_outcome node slot order other number)
  order_keeps slot Importing other number = import_keeps slot _
  order_keeps slot Migrating other number = migrate_keeps slot _
  order_keeps slot Node other number = ending_keeps slot (ending_verdict node slot other number)

  -- keys that are copied are there
  copy_keeps : (conn : Conn) (named : List (List ℕ)) (ticks : ℕ) (target : Option ℕ) (verdict : CopyVerdict) → KeepsShort (copy_outcome node conn (first_slot named) (those_there node.keyspace named) ticks verdict)
  copy_keeps conn named ticks target copies.CrossSlot = short
  copy_keeps conn named ticks target copies.WrongTarget = short
  copy_keeps conn named ticks target copies.NoKey = short
  copy_keeps conn named ticks target copies.CopyOutstanding = short
  copy_keeps conn named ticks target copies.Exhausted = short
  copy_keeps conn named ticks target (copies.SendAgain to number copy) = short
  copy_keeps conn named ticks target (copies.Copies to number copy) =
      put node.moves.running short (first_slot named) (Leaves to number copy (Some (those_there node.keyspace named)))
      (λ key among. key_there_short node.keyspace can key (ap (λ (o : Option Value). is_some o) (are_there node.keyspace named key among).1.1))

  failover_keeps : (master : Option ℕ) → KeepsShort (failover node master)
  failover_keeps None = short
  failover_keeps (Some master) = short

  cluster_keeps : (conn : Conn) (which : ClusterCommand) → KeepsShort (cluster_outcome node conn which)
  cluster_keeps conn (cluster.KeySlot key) = short
  cluster_keeps conn cluster.MyId = short
  cluster_keeps conn cluster.Slots = short
  cluster_keeps conn (cluster.CountKeysInSlot slot) = short
  cluster_keeps conn (cluster.GetKeysInSlot slot count) = short
  cluster_keeps conn (cluster.SlotState slot) = short
  cluster_keeps conn (cluster.SetSlot slot order id number) = order_keeps slot order (node_with_id node id) number
  cluster_keeps conn cluster.Numbered = short
  cluster_keeps conn cluster.Failover = failover_keeps (own_master node)
  cluster_keeps conn (cluster.Asking number) = short
  cluster_keeps conn (cluster.Migrate host port keys timeout) = copy_keeps conn keys timeout (node_at node host port) (copy_verdict_on node keys (node_at node host port))

  request_keeps : (conn : Conn) (connection : Option Connection) (command : Result Command CommandFault) → KeepsShort (by_command node conn connection command)
  request_keeps conn connection (Err fault) = short
  request_keeps conn connection (Ok (Cluster which)) = cluster_keeps conn which
  request_keeps conn connection (Ok (Data which)) = command_keeps (is_numbered connection) which (decision_on node which (asking_of connection))

  -- ---- messages

  arrived_keeps : (from : ℕ) (id : CopyId) (pairs : List (List ℕ × Value)) (verdict : ArrivalVerdict) → KeepsShort (arrived node from id pairs verdict)
  arrived_keeps from id pairs Installs = changed_short node.moves id.slot one_more one_more_short short
  arrived_keeps from id pairs Repeats = short
  arrived_keeps from id pairs Ignored = short

  acknowledged_keeps : (id : CopyId) (keys : Option (List (List ℕ))) → KeepsShort (acknowledged node id keys)
  acknowledged_keeps id None = short
  acknowledged_keeps id (Some keys) = changed_short node.moves id.slot unfrozen unfrozen_short short

  claim_keeps : (from : ℕ) (runs : List (Run ℕ)) → KeepsShort (claim node from runs)
  claim_keeps from runs = by_sender (from == node.number)
    where
      by_sender : (own : Bool) → KeepsShort (cond own (silent node) (claimed_by node (merged node.table runs from)))
      by_sender true = short
      by_sender false = some_stay node.moves.running short (λ slot. not (is_lost node (merged node.table runs from) slot && is_leaving (move_of node.moves slot)))

  promotion_keeps : (epoch : ℕ) (master : Option ℕ) → KeepsShort (promotion node epoch master)
  promotion_keeps epoch None = short
  promotion_keeps epoch (Some master) = short

  handed_keeps : (epoch : ℕ) (master : Option ℕ) (handing : Option Handing) → KeepsShort (handed_promotion node epoch master handing)
  handed_keeps epoch None handing = short
  handed_keeps epoch (Some master) None = short
  handed_keeps epoch (Some master) (Some handing) = by_place (is_at_end node.stream (Some handing))
    where
      by_place : (b : Bool) → KeepsShort (cond b (promotion_to node master epoch true (table_handed node handing.slots epoch)) (silent node))
      by_place true = short
      by_place false = short

  pause_keeps : (from : ℕ) (stream : StreamId) → KeepsShort (asked_to_pause node from stream)
  pause_keeps from stream = by_test (may_pause node from stream)
    where
      by_test : (b : Bool) → KeepsShort (cond b (handing_over node from) (silent node))
      by_test true = short
      by_test false = short

  noting_keeps : (handing : Handing) → KeepsShort (told_of_handing node handing)
  noting_keeps handing = by_test (is_replica node && is_same handing.stream node.stream.held.id)
    where
      by_test : (b : Bool) → KeepsShort (silent (cond b (record node { handover = noting node.handover handing }) node))
      by_test true = short
      by_test false = short

elected_keeps : (node : NodeState) → IsKept node → (won : Option Elected) → CanBeMade node.keyspace → KeepsShort (if_elected node won)
elected_keeps node short None can = short
elected_keeps node short (Some won) can = by_plan node.candidate.planned
  where
    by_plan : (planned : Bool) → KeepsShort (cond planned (handed_promotion node won.epoch (own_master node) node.handover.note) (promotion node won.epoch (own_master node)))
    by_plan true = handed_keeps node can short won.epoch (own_master node) node.handover.note
    by_plan false = promotion_keeps node can short won.epoch (own_master node)

body_keeps : (node : NodeState) → CanBeMade node.keyspace → IsKept node → (from : ℕ) (choice : Choice) (said : Body) → KeepsShort (taken_so node from choice said)
body_keeps node can short from choice (body.Slots (of_slots.Copy id pairs)) =
    arrived_keeps node can short from id pairs (arrival_verdict (move_of node.moves id.slot) from id.number id.copy (keep_limits pairs))
body_keeps node can short from choice (body.Slots (of_slots.Ack id)) = acknowledged_keeps node can short id (acknowledged_keys (move_of node.moves id.slot) from id.number id.copy)
body_keeps node can short from choice (body.Slots (of_slots.Drained slot number epoch)) = changed_short node.moves slot (note_drained from number epoch) (noted_short from number epoch) short
body_keeps node can short from choice (body.Slots (of_slots.Claim slots replaced)) = claim_keeps node can short from slots
body_keeps node can short from choice (body.Report suspects) = short
body_keeps node can short from choice (body.Election (of_election.Candidacy request)) = short
body_keeps node can short from choice (body.Election (of_election.Grant epoch)) = elected_keeps (record node { candidate = _ }) short (elected node.candidate (members_of node) from epoch) can
body_keeps node can short from choice (body.Stream (of_stream.Sync sync)) = synced_is KeepsShort node from sync short short
body_keeps node can short from choice (body.Stream (of_stream.Piece piece)) = pieced_keeps IsKept node (λ stream keyspace. short) from piece choice.follower
body_keeps node can short from choice (body.Stream (of_stream.Snapshot snapshot)) = restored_keeps IsKept node (λ stream keyspace. short) from snapshot
body_keeps node can short from choice (body.Election (of_election.Pause stream)) = pause_keeps node can short from stream
body_keeps node can short from choice (body.Election (of_election.Paused handing)) = noting_keeps node can short handing

-- ---- events

module _ (node : NodeState) (can : CanBeMade node.keyspace) (short : HasShortFrozen node.moves) where
  delivered_keeps : (message : Message) (choice : Choice) → KeepsShort (delivered node message choice)
  delivered_keeps message choice = by_target (message.to == node.number)
    where
      by_target : (b : Bool) → KeepsShort (cond b (taken (ready node message) message.from choice message.body) (silent node))
      by_target false = short
      by_target true =
          ready_keeps (λ (heard : NodeState). KeepsShort (taken heard message.from choice message.body)) node message (λ epoch masters health candidate handover role election.
          let heard : NodeState = record node { current_epoch = epoch; masters = masters; health = health; candidate = candidate; handover = handover } in
          let kept : KeepsShort (taken_so heard message.from choice message.body) = body_keeps heard can short message.from choice message.body in
          with_written_keeps IsKept (taken_so heard message.from choice message.body) (written_by_message heard message.from message.body) choice.dropped (λ stream. kept))

  tick_keeps : KeepsShort (tick node)
  tick_keeps = in_election_keeps IsKept (a_tick_older (older node)) (due_epoch (a_tick_older (older node))) (λ current candidate handover. short)

  closing_keeps : (conn : Conn) (is_open : Bool) (outcome : Outcome) → MatchBool is_open (IsClosing node conn outcome) (outcome ≡ silent node) → KeepsShort outcome
  closing_keeps conn false outcome may = subst KeepsShort (sym may) short
  closing_keeps conn true outcome may = subst KeepsShort (sym may.comes_to) short

  answering_keeps : (conn : Conn) (words : List (List ℕ)) (asks : Bool) (outcome : Outcome) → MatchBool asks (IsAnswering node conn words outcome) (outcome ≡ silent node) → KeepsShort outcome
  answering_keeps conn words false outcome may = subst KeepsShort (sym may) short
  answering_keeps conn words true outcome may =
      subst KeepsShort (sym may.comes_to)
      (with_written_keeps IsKept (request_outcome node conn (command_of words)) (written node conn words) may.dropped
      (λ stream. request_keeps (using_up node conn) can short conn (connection_at node.connections conn) (command_of words)))

  pub frozen_stay_short : (event : Event) (outcome : Outcome) → MayCome node event outcome → HasShortFrozen outcome.state.moves
  frozen_stay_short Open outcome may = subst KeepsShort (sym may.comes_to) short
  frozen_stay_short (Close conn) outcome may = closing_keeps conn (is_some (connection_at node.connections conn)) outcome may
  frozen_stay_short (Request conn words) outcome may = answering_keeps conn words (may_ask (connection_at node.connections conn)) outcome may
  frozen_stay_short (Deliver message) outcome may = subst KeepsShort (sym may.comes_to) (delivered_keeps message may.choice)
  frozen_stay_short Tick outcome may = subst KeepsShort (sym may.comes_to) tick_keeps
