-- What nodes say of handovers, by their state.
use Rattle.std.proofs.Common.{◌≡◌, ◌==◌, ◌++◌, ℕ, List, [], ◌∷◌, Bool, true, false, cond, Option, Some, None, Contains, refl, sym, subst, inl, inr}
use Rattle.std.proofs.lemmas.List.Elements.{Contains-append_cases}
use Rattle.std.specs.FinMap as fin_map
use Rattle.std.specs.List.{flat_map}
use Rattle.std.specs.Prelude.{MatchBool, Result, Ok, Err, is_some, ⊤}
use Rattle.bus.specs.Stream.{StreamView}
use Rattle.bus.specs.Syncing.{answer_to}
use Rattle.bus.specs.declared.message.Body.{Body}
use Rattle.bus.specs.declared.bodies.ElectionBody.TheVariants as of_election
use Rattle.bus.specs.declared.bodies.SlotsBody.TheVariants as of_slots
use Rattle.bus.specs.declared.bodies.StreamBody.TheVariants as of_stream
use Rattle.bus.specs.declared.message.Body.TheVariants as body
use Rattle.bus.specs.declared.bodies.Handing.{Handing}
use Rattle.bus.specs.declared.answer.SyncAnswer.{SyncAnswer}
use Rattle.bus.specs.declared.answer.SyncAnswer.TheVariants as answers
use Rattle.bus.specs.declared.stream_id.StreamId.{StreamId}
use Rattle.command_table.specs.Keys.{data_keys}
use Rattle.command_table.specs.Table.{command_of}
use Rattle.command_table.specs.declared.command.ClusterCommand.{ClusterCommand}
use Rattle.command_table.specs.declared.command.ClusterCommand.TheVariants as cluster
use Rattle.command_table.specs.declared.command.Command.{Command}
use Rattle.command_table.specs.declared.command.Command.TheVariants.{Data, Cluster}
use Rattle.command_table.specs.declared.command.DataCommand.{DataCommand}
use Rattle.command_table.specs.declared.command.SlotOrder.{SlotOrder}
use Rattle.command_table.specs.declared.command.SlotOrder.TheVariants.{Importing, Migrating, Node}
use Rattle.command_table.specs.declared.fault.CommandFault.{CommandFault}
use Rattle.connections.specs.Connections.{connection_at, may_ask}
use Rattle.connections.specs.declared.conn.Conn.{Conn}
use Rattle.connections.specs.declared.conn.Connection.{Connection}
use Rattle.election.specs.Electing.{counted, elected}
use Rattle.election.specs.Failing.{suspected}
use Rattle.election.specs.Health.{Candidate}
use Rattle.election.specs.Voting.{may_grant}
use Rattle.election.specs.declared.running.Elected.{Elected}
use Rattle.election.specs.declared.voter.VoteRequest.{VoteRequest}
use Rattle.keyspace.specs.Keyspace.{Keyspace}
use Rattle.keyspace.specs.declared.value.Value.{Value}
use Rattle.migrate.specs.Acknowledging.{acknowledged_keys}
use Rattle.migrate.specs.Arriving.{arrival_verdict}
use Rattle.migrate.specs.declared.arriving.ArrivalVerdict.{ArrivalVerdict}
use Rattle.migrate.specs.declared.arriving.ArrivalVerdict.TheVariants.{Ignored, Installs, Repeats}
use Rattle.migrate.specs.declared.sending.CopyVerdict.{CopyVerdict}
use Rattle.migrate.specs.declared.sending.CopyVerdict.TheVariants as copies
use Rattle.redirect.specs.declared.decision.Decision.{Decision}
use Rattle.redirect.specs.declared.decision.Decision.TheVariants.{Serve, ServeImport, CrossSlot, Down, TryAgain, Ask, Moved}
use Rattle.slot_state.specs.Moves.{copy_id, move_of}
use Rattle.slot_state.specs.declared.ending.NodeVerdict.{NodeVerdict}
use Rattle.slot_state.specs.declared.ending.NodeVerdict.TheVariants as ending
use Rattle.slot_state.specs.declared.migrating.MigrateVerdict.{MigrateVerdict}
use Rattle.slot_state.specs.declared.migrating.MigrateVerdict.TheVariants as migrate
use Rattle.slot_state.specs.declared.running.Move.{Move}
use Rattle.slot_state.specs.declared.running.Move.TheVariants.{Leaves, Comes}
use Rattle.slot_state.specs.declared.copy_id.CopyId.{CopyId}
use Rattle.slot_table.specs.Claims.{merged}
use Rattle.slot_table.specs.declared.runs.Run.{Run}
use Rattle.node_step.proofs.Kept.{synced_is}
use Rattle.node_step.proofs.Ready.{in_election_keeps}
use Rattle.node_step.specs.Claiming.{claimed_by}
use Rattle.node_step.specs.Commands.{command_outcome, decision_on, drained_by_command, executed}
use Rattle.node_step.specs.Copies.{acknowledged, arrived, copy_outcome, copy_verdict_on, first_slot, keep_limits, node_at, outstanding, pairs_at, those_there, without_keys}
use Rattle.node_step.specs.Failing.{a_tick_older, members_of}
use Rattle.node_step.specs.Handovers.{asked_again, failover, handed_again, handed_to, handing_of, handing_over, is_at_end, may_pause}
use Rattle.node_step.specs.Messages.{Choice, ready, taken, taken_so, written_by_message}
use Rattle.node_step.specs.Orders.{claim_of, ending_outcome, ending_verdict, migrate_outcome, others, to_all}
use Rattle.node_step.specs.Outcome.{Outcome, silent}
use Rattle.node_step.specs.Promotion.{handed_promotion, promotion, promotion_to, table_handed}
use Rattle.node_step.specs.Replicas.{sync_answer, sync_to}
use Rattle.node_step.specs.Requests.{asking_of, by_command, cluster_outcome, is_numbered, node_with_id, order_outcome, request_outcome, using_up}
use Rattle.node_step.specs.Roles.{replicas_of}
use Rattle.node_step.specs.Slots.{drained, drained_by, drained_if_empty, drained_since, has_keys, slot_epoch}
use Rattle.node_step.specs.State.{NodeState, own_master}
use Rattle.node_step.specs.Step.{IsAnswering, IsClosing, MayCome, written as written_at}
use Rattle.node_step.specs.Streams.{Requests, with_written}
use Rattle.node_step.specs.Ticks.{older, sent_again, tick}
use Rattle.node_step.specs.Voting.{due_epoch, if_elected, request_of, requests_in, voters_of, voting}
use Rattle.node_step.specs.declared.event.Event.{Event}
use Rattle.node_step.specs.declared.event.Event.TheVariants.{Open, Close, Request, Deliver, Tick}
use Rattle.single_keyspace.proofs.Lists.{contains_nothing, contains_one, from_map}

-- a replica asks its master to hand over; who hands over says so to that replica; and whose place a node took stays so
abbrev pub Speaks : NodeState → ℕ → Body → Type 0
Speaks node to (body.Election (of_election.Pause stream)) = own_master node ≡ Some to
Speaks node to (body.Election (of_election.Paused handing)) = (node.paused ≡ Some to) × (handing ≡ handing_of node)
Speaks node to (body.Slots (of_slots.Claim slots replaced)) = replaced ≡ node.replaced
Speaks node to other = ⊤

abbrev pub Speak : NodeState → List (ℕ × Body) → Type 0
Speak node sent = (to : ℕ) (said : Body) → Contains sent (to, said) → Speaks node to said

-- where nothing is said of what is handed over
abbrev Asks : NodeState → ℕ → Body → Type 0
Asks node to (body.Election (of_election.Pause stream)) = own_master node ≡ Some to
Asks node to (body.Election (of_election.Paused handing)) = ⊥
Asks node to (body.Slots (of_slots.Claim slots replaced)) = replaced ≡ node.replaced
Asks node to other = ⊤

abbrev AskAll : NodeState → List (ℕ × Body) → Type 0
AskAll node sent = (to : ℕ) (said : Body) → Contains sent (to, said) → Asks node to said

-- ---- lists

speak_nothing : (node : NodeState) → AskAll node []
speak_nothing node to said among = absurd (contains_nothing (to, said) among)

speak_both : (node : NodeState) (sent others : List (ℕ × Body)) → AskAll node sent → AskAll node others → AskAll node (sent ++ others)
speak_both node sent others first second to said among =
    elim (Contains-append_cases sent others (to, said) among) [
      | inl one ↦ first to said one
      | inr other ↦ second to said other
    ]

speak_one : (node : NodeState) (to : ℕ) (said : Body) → Asks node to said → AskAll node ((to, said) ∷ [])
speak_one node to said is other more among = subst (λ (p : ℕ × Body). Asks node p.0 p.1) (contains_one (to, said) (other, more) among) is

speak_to_all : (node : NodeState) (numbers : List ℕ) (said : Body) → ((to : ℕ) → Asks node to said) → AskAll node (to_all numbers said)
speak_to_all node numbers said is to more among =
    let found = from_map (λ (number : ℕ). (number, said)) numbers (to, more) among in
    subst (λ (p : ℕ × Body). Asks node p.0 p.1) found.2 (is found.0)

-- ---- of slots

module _ (node : NodeState) where
  drained_by_speaks : (slot epoch : ℕ) (move : Option Move) → AskAll node (drained_by slot epoch move)
  drained_by_speaks slot epoch None = speak_nothing node
  drained_by_speaks slot epoch (Some (Comes from number last known)) = speak_nothing node
  drained_by_speaks slot epoch (Some (Leaves to number copies frozen)) = speak_one node to (body.Slots (of_slots.Drained slot number epoch)) tt

  either_speaks : (b : Bool) (sent others : List (ℕ × Body)) → AskAll node sent → AskAll node others → AskAll node (cond b sent others)
  either_speaks true sent others first second = first
  either_speaks false sent others first second = second

  drained_if_empty_speaks : (own : NodeState) (slot : ℕ) → AskAll node (drained_if_empty own slot)
  drained_if_empty_speaks own slot = either_speaks (has_keys own.keyspace slot) [] (drained own slot) (speak_nothing node) (drained_by_speaks slot (slot_epoch own slot) (move_of own.moves slot))

  drained_since_speaks : (before : Keyspace) (own : NodeState) (slot : ℕ) → AskAll node (drained_since before own slot)
  drained_since_speaks before own slot = either_speaks (has_keys before slot) (drained_if_empty own slot) [] (drained_if_empty_speaks own slot) (speak_nothing node)

  by_command_speaks : (old new : NodeState) (keys : List (List ℕ)) → AskAll node (drained_by_command old new keys)
  by_command_speaks old new [] = speak_nothing node
  by_command_speaks old new (key ∷ more) = drained_since_speaks old.keyspace new _

  outstanding_speaks : (keyspace : Keyspace) (slot : ℕ) (move : Option Move) → AskAll node (outstanding keyspace slot move)
  outstanding_speaks keyspace slot None = speak_nothing node
  outstanding_speaks keyspace slot (Some (Comes from number last known)) = speak_nothing node
  outstanding_speaks keyspace slot (Some (Leaves to number copies None)) = speak_nothing node
  outstanding_speaks keyspace slot (Some (Leaves to number copies (Some keys))) = speak_one node to (body.Slots (of_slots.Copy (copy_id slot number copies) (pairs_at keyspace keys))) tt

  again_speaks : (own : NodeState) (moves : List (ℕ × Move)) → AskAll node (flat_map (sent_again own) moves)
  again_speaks own [] = speak_nothing node
  again_speaks own ((slot, Comes from number last known) ∷ moves) = speak_both node [] (flat_map (sent_again own) moves) (speak_nothing node) (again_speaks own moves)
  again_speaks own ((slot, Leaves to number copies None) ∷ moves) = speak_both node (drained_if_empty own slot) (flat_map (sent_again own) moves) (drained_if_empty_speaks own slot) (again_speaks own moves)
  again_speaks own ((slot, Leaves to number copies (Some keys)) ∷ moves) =
      speak_both node (outstanding own.keyspace slot (Some (Leaves to number copies (Some keys)))) (flat_map (sent_again own) moves) (outstanding_speaks own.keyspace slot (Some (Leaves to number copies (Some keys)))) (again_speaks own moves)

-- ---- requests

module _ (node : NodeState) where
  abbrev Says : Outcome → Type 0
  Says outcome = AskAll outcome.state outcome.sent

  command_says : (numbered : Bool) (which : DataCommand) (why : Decision) → Says (command_outcome node numbered which why)
  command_says numbered which Serve = by_command_speaks (executed node which) node (executed node which) (data_keys which)
  command_says numbered which (ServeImport number) = by_command_speaks (executed node which) node (executed node which) (data_keys which)
  command_says numbered which CrossSlot = speak_nothing node
  command_says numbered which Down = speak_nothing node
  command_says numbered which (TryAgain reason) = speak_nothing node
  command_says numbered which (Ask slot to number) = speak_nothing node
  command_says numbered which (Moved slot to) = speak_nothing node

  migrate_says : (slot : ℕ) (verdict : MigrateVerdict) → Says (migrate_outcome node slot verdict)
  migrate_says slot migrate.UnknownNode = speak_nothing node
  migrate_says slot migrate.Already = speak_nothing node
  migrate_says slot migrate.HandingOver = speak_nothing node
  migrate_says slot migrate.Busy = speak_nothing node
  migrate_says slot migrate.NotOwner = speak_nothing node
  migrate_says slot migrate.OldMove = speak_nothing node
  migrate_says slot (migrate.Begins to number) = drained_if_empty_speaks (migrate_outcome node slot (migrate.Begins to number)).state (migrate_outcome node slot (migrate.Begins to number)).state slot

  ending_says : (slot : ℕ) (verdict : NodeVerdict) → Says (ending_outcome node slot verdict)
  ending_says slot (ending.Ends drained) = speak_to_all (ending_outcome node slot (ending.Ends drained)).state (others node) _ (λ to. refl)
  ending_says slot ending.UnknownNode = speak_nothing node
  ending_says slot ending.OldMove = speak_nothing node
  ending_says slot ending.NotDrained = speak_nothing node
  ending_says slot ending.IsOwner = speak_nothing node
  ending_says slot ending.NotYetOwner = speak_nothing node

  order_says : (slot : ℕ) (order : SlotOrder) (other number : Option ℕ) → Says (order_outcome node slot order other number)
  order_says slot Importing other number = speak_nothing (order_outcome node slot Importing other number).state
  order_says slot Migrating other number = migrate_says slot _
  order_says slot Node other number = ending_says slot (ending_verdict node slot other number)

  copy_says : (conn : Conn) (slot : ℕ) (keys : List (List ℕ)) (ticks : ℕ) (verdict : CopyVerdict) → Says (copy_outcome node conn slot keys ticks verdict)
  copy_says conn slot keys ticks copies.CrossSlot = speak_nothing node
  copy_says conn slot keys ticks copies.WrongTarget = speak_nothing node
  copy_says conn slot keys ticks copies.NoKey = speak_nothing node
  copy_says conn slot keys ticks copies.CopyOutstanding = speak_nothing node
  copy_says conn slot keys ticks copies.Exhausted = speak_nothing node
  copy_says conn slot keys ticks (copies.SendAgain to number copy) = outstanding_speaks (copy_outcome node conn slot keys ticks (copies.SendAgain to number copy)).state node.keyspace slot (move_of node.moves slot)
  copy_says conn slot keys ticks (copies.Copies to number copy) = outstanding_speaks (copy_outcome node conn slot keys ticks (copies.Copies to number copy)).state node.keyspace slot _

  failover_says : (master : Option ℕ) → own_master node ≡ master → Says (failover node master)
  failover_says None own = speak_nothing node
  failover_says (Some master) own = speak_one (failover node (Some master)).state master (body.Election (of_election.Pause node.stream.held.id)) own

  cluster_says : (conn : Conn) (which : ClusterCommand) → Says (cluster_outcome node conn which)
  cluster_says conn (cluster.KeySlot key) = speak_nothing node
  cluster_says conn cluster.MyId = speak_nothing node
  cluster_says conn cluster.Slots = speak_nothing node
  cluster_says conn (cluster.CountKeysInSlot slot) = speak_nothing node
  cluster_says conn (cluster.GetKeysInSlot slot count) = speak_nothing node
  cluster_says conn (cluster.SlotState slot) = speak_nothing node
  cluster_says conn (cluster.SetSlot slot order id number) = order_says slot order (node_with_id node id) number
  cluster_says conn cluster.Numbered = speak_nothing (cluster_outcome node conn cluster.Numbered).state
  cluster_says conn cluster.Failover = failover_says (own_master node) refl
  cluster_says conn (cluster.Asking number) = speak_nothing (cluster_outcome node conn (cluster.Asking number)).state
  cluster_says conn (cluster.Migrate host port keys timeout) = copy_says conn (first_slot keys) (those_there node.keyspace keys) timeout (copy_verdict_on node keys (node_at node host port))

  words_say : (conn : Conn) (connection : Option Connection) (command : Result Command CommandFault) → Says (by_command node conn connection command)
  words_say conn connection (Err fault) = speak_nothing node
  words_say conn connection (Ok (Cluster which)) = cluster_says conn which
  words_say conn connection (Ok (Data which)) = command_says (is_numbered connection) which (decision_on node which (asking_of connection))

-- ---- messages

module _ (node : NodeState) where
  acknowledged_says : (id : CopyId) (keys : Option (List (List ℕ))) → AskAll (acknowledged node id keys).state (acknowledged node id keys).sent
  acknowledged_says id None = speak_nothing node
  acknowledged_says id (Some keys) = drained_since_speaks (without_keys node id keys) node.keyspace (without_keys node id keys) id.slot

  arrived_says : (from : ℕ) (id : CopyId) (pairs : List (List ℕ × Value)) (verdict : ArrivalVerdict) → AskAll (arrived node from id pairs verdict).state (arrived node from id pairs verdict).sent
  arrived_says from id pairs Installs = speak_one (arrived node from id pairs Installs).state from (body.Slots (of_slots.Ack id)) tt
  arrived_says from id pairs Repeats = speak_one (arrived node from id pairs Repeats).state from (body.Slots (of_slots.Ack id)) tt
  arrived_says from id pairs Ignored = speak_nothing (arrived node from id pairs Ignored).state

  claimed_says : (own : Bool) (after : Outcome) → after.sent ≡ [] → AskAll (cond own (silent node) after).state (cond own (silent node) after).sent
  claimed_says true after none = speak_nothing node
  claimed_says false after none = subst (AskAll after.state) (sym none) (speak_nothing after.state)

  grant_says : (candidate : Candidate) (won : Option Elected) → AskAll (if_elected (record node { candidate = candidate }) won).state (if_elected (record node { candidate = candidate }) won).sent
  grant_says candidate None = speak_nothing (record node { candidate = candidate })
  grant_says candidate (Some won) = by_plan candidate.planned
    where
      failed : (master : Option ℕ) → AskAll (promotion (record node { candidate = candidate }) won.epoch master).state (promotion (record node { candidate = candidate }) won.epoch master).sent
      failed None = speak_nothing (record node { candidate = candidate })
      failed (Some master) = speak_to_all (promotion (record node { candidate = candidate }) won.epoch (Some master)).state (others node) _ (λ to. refl)

      handed : (master : Option ℕ) (told : Option Handing) → AskAll (handed_promotion (record node { candidate = candidate }) won.epoch master told).state (handed_promotion (record node { candidate = candidate }) won.epoch master told).sent
      handed None told = speak_nothing (record node { candidate = candidate })
      handed (Some master) None = speak_nothing (record node { candidate = candidate })
      handed (Some master) (Some handing) = by_place (is_at_end node.stream (Some handing))
        where
          by_place : (b : Bool) → AskAll (cond b (promotion_to (record node { candidate = candidate }) master won.epoch true (table_handed node handing.slots won.epoch)) (silent (record node { candidate = candidate }))).state
              (cond b (promotion_to (record node { candidate = candidate }) master won.epoch true (table_handed node handing.slots won.epoch)) (silent (record node { candidate = candidate }))).sent
          by_place true = speak_to_all (promotion_to (record node { candidate = candidate }) master won.epoch true (table_handed node handing.slots won.epoch)).state (others node) _ (λ to. refl)
          by_place false = speak_nothing (record node { candidate = candidate })

      by_plan : (planned : Bool) → AskAll (cond planned (handed_promotion (record node { candidate = candidate }) won.epoch (own_master node) node.handover.note) (promotion (record node { candidate = candidate }) won.epoch (own_master node))).state
          (cond planned (handed_promotion (record node { candidate = candidate }) won.epoch (own_master node) node.handover.note) (promotion (record node { candidate = candidate }) won.epoch (own_master node))).sent
      by_plan true = handed (own_master node) node.handover.note
      by_plan false = failed (own_master node)

  vote_says : (request : VoteRequest) (granted : Bool) → AskAll (voting node request granted).state (voting node request granted).sent
  vote_says request true = speak_one (voting node request true).state request.candidate (body.Election (of_election.Grant request.epoch)) tt
  vote_says request false = speak_nothing (voting node request false).state

  answer_says : (from : ℕ) (answer : SyncAnswer) → AskAll node (sync_answer node from answer)
  answer_says from answers.UpToDate = speak_nothing node
  answer_says from (answers.Piece piece) = speak_one node from (body.Stream (of_stream.Piece piece)) tt
  answer_says from answers.Snapshot = speak_one node from _ tt

  row_says : (from : ℕ) (choice : Choice) (said : Body) → ((stream : StreamId) → said ≡ body.Election (of_election.Pause stream) → ⊥) → AskAll (taken_so node from choice said).state (taken_so node from choice said).sent
  row_says from choice (body.Slots (of_slots.Copy id pairs)) no_pause = arrived_says from id pairs (arrival_verdict (move_of node.moves id.slot) from id.number id.copy (keep_limits pairs))
  row_says from choice (body.Slots (of_slots.Ack id)) no_pause = acknowledged_says id (acknowledged_keys (move_of node.moves id.slot) from id.number id.copy)
  row_says from choice (body.Slots (of_slots.Drained slot number epoch)) no_pause = speak_nothing (taken_so node from choice (body.Slots (of_slots.Drained slot number epoch))).state
  row_says from choice (body.Slots (of_slots.Claim slots replaced)) no_pause = claimed_says (from == node.number) (claimed_by node (merged node.table slots from)) refl
  row_says from choice (body.Report suspects) no_pause = speak_nothing node
  row_says from choice (body.Election (of_election.Candidacy request)) no_pause = vote_says (request_of from request) (may_grant node.voter (members_of node) node.health node.current_epoch (request_of from request))
  row_says from choice (body.Election (of_election.Grant epoch)) no_pause = grant_says (counted node.candidate (members_of node) from epoch) (elected node.candidate (members_of node) from epoch)
  row_says from choice (body.Stream (of_stream.Sync sync)) no_pause = synced_is (λ (o : Outcome). AskAll o.state o.sent) node from sync (speak_nothing node) (answer_says from (answer_to node.stream sync))
  row_says from choice (body.Stream (of_stream.Piece piece)) no_pause = speak_nothing (taken_so node from choice (body.Stream (of_stream.Piece piece))).state
  row_says from choice (body.Stream (of_stream.Snapshot snapshot)) no_pause = speak_nothing (taken_so node from choice (body.Stream (of_stream.Snapshot snapshot))).state
  row_says from choice (body.Election (of_election.Pause stream)) no_pause = absurd (no_pause stream refl)
  row_says from choice (body.Election (of_election.Paused handing)) no_pause = speak_nothing (taken_so node from choice (body.Election (of_election.Paused handing))).state

-- ---- what is put round a step

asks_speaks : (node : NodeState) (stream : StreamView) (to : ℕ) (said : Body) → Asks node to said → Speaks (record node { stream = stream }) to said
asks_speaks node stream to (body.Slots (of_slots.Copy id pairs)) is = tt
asks_speaks node stream to (body.Slots (of_slots.Ack id)) is = tt
asks_speaks node stream to (body.Slots (of_slots.Drained slot number epoch)) is = tt
asks_speaks node stream to (body.Slots (of_slots.Claim slots replaced)) is = is
asks_speaks node stream to (body.Report suspects) is = tt
asks_speaks node stream to (body.Election (of_election.Candidacy request)) is = tt
asks_speaks node stream to (body.Election (of_election.Grant epoch)) is = tt
asks_speaks node stream to (body.Stream (of_stream.Sync sync)) is = tt
asks_speaks node stream to (body.Stream (of_stream.Piece piece)) is = tt
asks_speaks node stream to (body.Stream (of_stream.Snapshot snapshot)) is = tt
asks_speaks node stream to (body.Election (of_election.Pause id)) is = is
asks_speaks node stream to (body.Election (of_election.Paused handing)) is = absurd is

said_both : (node : NodeState) (sent others : List (ℕ × Body)) → Speak node sent → Speak node others → Speak node (sent ++ others)
said_both node sent others first second to said among =
    elim (Contains-append_cases sent others (to, said) among) [
      | inl one ↦ first to said one
      | inr other ↦ second to said other
    ]

said_one : (node : NodeState) (to : ℕ) (said : Body) → Speaks node to said → Speak node ((to, said) ∷ [])
said_one node to said is other more among = subst (λ (p : ℕ × Body). Speaks node p.0 p.1) (contains_one (to, said) (other, more) among) is

said_to_all : (node : NodeState) (numbers : List ℕ) (said : Body) → ((to : ℕ) → Speaks node to said) → Speak node (to_all numbers said)
said_to_all node numbers said is to more among =
    let found = from_map (λ (number : ℕ). (number, said)) numbers (to, more) among in
    subst (λ (p : ℕ × Body). Speaks node p.0 p.1) found.2 (is found.0)

said_nothing : (node : NodeState) → Speak node []
said_nothing node to said among = absurd (contains_nothing (to, said) among)

with_written_speaks : (outcome : Outcome) (requests : Requests) (dropped : ℕ) → AskAll outcome.state outcome.sent → Speak (with_written outcome requests dropped).state (with_written outcome requests dropped).sent
with_written_speaks outcome [] dropped is = λ to said among. asks_speaks outcome.state outcome.state.stream to said (is to said among)
with_written_speaks outcome (request ∷ requests) dropped is =
    said_both (with_written outcome (request ∷ requests) dropped).state outcome.sent (to_all (replicas_of outcome.state.masters outcome.state.number) _)
    (λ to said among. asks_speaks outcome.state (with_written outcome (request ∷ requests) dropped).state.stream to said (is to said among))
    (said_to_all (with_written outcome (request ∷ requests) dropped).state (replicas_of outcome.state.masters outcome.state.number) _ (λ to. tt))

-- ---- any event

module _ (node : NodeState) where
  hands_again : (replica : Option ℕ) (slots : List (Run ℕ)) → node.paused ≡ replica → Speak node (handed_again node replica slots)
  hands_again None slots is = said_nothing node
  hands_again (Some replica) [] is = said_nothing node
  hands_again (Some replica) (run ∷ slots) is = said_one node replica (body.Election (of_election.Paused (handing_of node))) (is, refl)

  hands_to : (replica : ℕ) (paused : Option ℕ) → Speak (record node { paused = Some replica }) (handed_to node replica paused)
  hands_to replica None = said_one (record node { paused = Some replica }) replica (body.Election (of_election.Paused (handing_of node))) (refl, refl)
  hands_to replica (Some other) = by_slots (claim_of node)
    where
      by_slots : (slots : List (Run ℕ)) → Speak (record node { paused = Some replica }) (handed_again node (Some replica) slots)
      by_slots [] = said_nothing (record node { paused = Some replica })
      by_slots (run ∷ slots) = said_one (record node { paused = Some replica }) replica (body.Election (of_election.Paused (handing_of node))) (refl, refl)

  pause_speaks : (from : ℕ) (b : Bool) → Speak (cond b (handing_over node from) (silent node)).state (cond b (handing_over node from) (silent node)).sent
  pause_speaks from true = hands_to from node.paused
  pause_speaks from false = said_nothing node

  taken_speaks : (from : ℕ) (choice : Choice) (said : Body) → Speak (taken node from choice said).state (taken node from choice said).sent
  taken_speaks from choice (body.Election (of_election.Pause stream)) = pause_speaks from (may_pause node from stream)
  taken_speaks from choice (body.Slots (of_slots.Copy id pairs)) = with_written_speaks (taken_so node from choice (body.Slots (of_slots.Copy id pairs))) (written_by_message node from (body.Slots (of_slots.Copy id pairs))) choice.dropped (row_says node from choice (body.Slots (of_slots.Copy id pairs)) (λ stream is. cc))
  taken_speaks from choice (body.Slots (of_slots.Ack id)) = with_written_speaks (taken_so node from choice (body.Slots (of_slots.Ack id))) (written_by_message node from (body.Slots (of_slots.Ack id))) choice.dropped (row_says node from choice (body.Slots (of_slots.Ack id)) (λ stream is. cc))
  taken_speaks from choice (body.Slots (of_slots.Drained slot number epoch)) = with_written_speaks (taken_so node from choice (body.Slots (of_slots.Drained slot number epoch))) [] choice.dropped (row_says node from choice (body.Slots (of_slots.Drained slot number epoch)) (λ stream is. cc))
  taken_speaks from choice (body.Slots (of_slots.Claim slots replaced)) = with_written_speaks (taken_so node from choice (body.Slots (of_slots.Claim slots replaced))) (written_by_message node from (body.Slots (of_slots.Claim slots replaced))) choice.dropped (row_says node from choice (body.Slots (of_slots.Claim slots replaced)) (λ stream is. cc))
  taken_speaks from choice (body.Report suspects) = with_written_speaks (taken_so node from choice (body.Report suspects)) [] choice.dropped (row_says node from choice (body.Report suspects) (λ stream is. cc))
  taken_speaks from choice (body.Election (of_election.Candidacy request)) = with_written_speaks (taken_so node from choice (body.Election (of_election.Candidacy request))) [] choice.dropped (row_says node from choice (body.Election (of_election.Candidacy request)) (λ stream is. cc))
  taken_speaks from choice (body.Election (of_election.Grant epoch)) = with_written_speaks (taken_so node from choice (body.Election (of_election.Grant epoch))) [] choice.dropped (row_says node from choice (body.Election (of_election.Grant epoch)) (λ stream is. cc))
  taken_speaks from choice (body.Stream (of_stream.Sync sync)) = with_written_speaks (taken_so node from choice (body.Stream (of_stream.Sync sync))) [] choice.dropped (row_says node from choice (body.Stream (of_stream.Sync sync)) (λ stream is. cc))
  taken_speaks from choice (body.Stream (of_stream.Piece piece)) = with_written_speaks (taken_so node from choice (body.Stream (of_stream.Piece piece))) [] choice.dropped (row_says node from choice (body.Stream (of_stream.Piece piece)) (λ stream is. cc))
  taken_speaks from choice (body.Stream (of_stream.Snapshot snapshot)) = with_written_speaks (taken_so node from choice (body.Stream (of_stream.Snapshot snapshot))) [] choice.dropped (row_says node from choice (body.Stream (of_stream.Snapshot snapshot)) (λ stream is. cc))
  taken_speaks from choice (body.Election (of_election.Paused handing)) = with_written_speaks (taken_so node from choice (body.Election (of_election.Paused handing))) [] choice.dropped (row_says node from choice (body.Election (of_election.Paused handing)) (λ stream is. cc))

  tick_speaks : Speak (tick node).state (tick node).sent
  tick_speaks =
      in_election_keeps (λ (after : NodeState). Speak after (tick node).sent) aged (due_epoch aged) (λ current candidate handover.
      let after : NodeState = record aged { current_epoch = current; candidate = candidate; handover = handover } in
      said_both after _ _
      (said_both after _ _
      (said_both after _ _
      (said_both after _ _
      (said_both after _ _ (λ to said among. asks_speaks after node.stream to said (again_speaks after node (fin_map.entries node.moves.running) to said among))
      (said_both after _ _ (said_to_all after (others node) (body.Slots (of_slots.Claim (claim_of node) node.replaced)) (λ to. refl)) (said_to_all after (others node) (body.Report (suspected aged.health (members_of node))) (λ to. tt))))
      (syncs after (own_master node)))
      (asks_it after node.handover.asked (own_master node) refl))
      (hands after node.paused (claim_of node) refl refl))
      (requests after (due_epoch aged) (own_master node)))
    where
      aged : NodeState
      aged = a_tick_older (older node)

      syncs : (after : NodeState) (master : Option ℕ) → Speak after (sync_to node.stream master)
      syncs after None = said_nothing after
      syncs after (Some master) = said_one after master _ tt

      asks_it : (after : NodeState) (asked : Bool) (master : Option ℕ) → own_master after ≡ master → Speak after (asked_again asked node.stream.held.id master)
      asks_it after true (Some master) own = said_one after master _ own
      asks_it after true None own = said_nothing after
      asks_it after false master own = said_nothing after

      hands : (after : NodeState) (replica : Option ℕ) (slots : List (Run ℕ)) → after.paused ≡ replica → handing_of node ≡ handing_of after → Speak after (handed_again node replica slots)
      hands after None slots paused same = said_nothing after
      hands after (Some replica) [] paused same = said_nothing after
      hands after (Some replica) (run ∷ slots) paused same = said_one after replica (body.Election (of_election.Paused (handing_of node))) (paused, same)

      requests : (after : NodeState) (epoch master : Option ℕ) → Speak after (requests_in aged epoch master)
      requests after None master = said_nothing after
      requests after (Some epoch) None = said_nothing after
      requests after (Some epoch) (Some master) = said_to_all after (voters_of aged) _ (λ to. tt)

pub event_speaks : (node : NodeState) (event : Event) (outcome : Outcome) → MayCome node event outcome → Speak outcome.state outcome.sent
event_speaks node Open outcome may = subst (λ (o : Outcome). Speak o.state o.sent) (sym may.comes_to) (λ to said among. absurd (contains_nothing (to, said) among))
event_speaks node (Close conn) outcome may = by_open (is_some (connection_at node.connections conn)) may
  where
    by_open : (is_open : Bool) → MatchBool is_open (IsClosing node conn outcome) (outcome ≡ silent node) → Speak outcome.state outcome.sent
    by_open false may = subst (λ (o : Outcome). Speak o.state o.sent) (sym may) (said_nothing node)
    by_open true may = subst (λ (o : Outcome). Speak o.state o.sent) (sym may.comes_to) (λ to said among. absurd (contains_nothing (to, said) among))
event_speaks node (Request conn words) outcome may = by_asking (may_ask (connection_at node.connections conn)) may
  where
    by_asking : (asks : Bool) → MatchBool asks (IsAnswering node conn words outcome) (outcome ≡ silent node) → Speak outcome.state outcome.sent
    by_asking false may = subst (λ (o : Outcome). Speak o.state o.sent) (sym may) (said_nothing node)
    by_asking true may =
        subst (λ (o : Outcome). Speak o.state o.sent) (sym may.comes_to)
        (with_written_speaks (request_outcome node conn (command_of words)) (written_at node conn words) may.dropped (words_say (using_up node conn) conn (connection_at node.connections conn) (command_of words)))
event_speaks node (Deliver message) outcome may = subst (λ (o : Outcome). Speak o.state o.sent) (sym may.comes_to) (by_target (message.to == node.number))
  where
    by_target : (b : Bool) → Speak (cond b (taken (ready node message) message.from may.choice message.body) (silent node)).state (cond b (taken (ready node message) message.from may.choice message.body) (silent node)).sent
    by_target true = taken_speaks (ready node message) message.from may.choice message.body
    by_target false = said_nothing node
event_speaks node Tick outcome may = subst (λ (o : Outcome). Speak o.state o.sent) (sym may.comes_to) (tick_speaks node)
