-- Steps of replicas, and of masters that hand over: no slot moves there, and none is served.
use Rattle.std.proofs.Common.{◌≡◌, ◌≢◌, ◌==◌, ◌&&◌, ◌⊎◌, ◌++◌, ℕ, List, [], ◌∷◌, Bool, true, false, cond, Option, Some, None, Contains, length, refl, sym, ap, subst, ◌∙◌, inl, inr, arith}
use Rattle.std.proofs.lemmas.Bool.{and_parts, both_ways, eqb-false, eqb-true}
use Rattle.std.proofs.lemmas.List.Elements.{Contains-append_cases}
use Rattle.std.specs.FinMap as fin_map
use Rattle.std.specs.List.{flat_map}
use Rattle.std.specs.Ordering.{nat_cmp}
use Rattle.std.specs.Prelude.{MatchBool, Result, Ok, Err, is_some}
use Rattle.command_table.specs.Keys.{data_keys}
use Rattle.command_table.specs.Table.{command_of}
use Rattle.command_table.specs.declared.command.ClusterCommand.{ClusterCommand}
use Rattle.command_table.specs.declared.command.ClusterCommand.TheVariants as cluster
use Rattle.command_table.specs.declared.command.Command.{Command}
use Rattle.command_table.specs.declared.command.Command.TheVariants.{Data, Cluster}
use Rattle.command_table.specs.declared.command.DataCommand.{DataCommand}
use Rattle.command_table.specs.declared.command.SlotOrder.{SlotOrder}
use Rattle.command_table.specs.declared.command.SlotOrder.TheVariants.{Importing, Migrating, Node}
use Rattle.command_table.specs.declared.fault.CommandFault.{CommandFault}
use Rattle.keyspace.specs.Commands.{exec, execution_of}
use Rattle.keyspace.specs.Keyspace.{Keyspace}
use Rattle.keyspace.specs.Locality.{CommandsAreLocal}
use Rattle.keyspace.specs.declared.value.Value.{Value}
use Rattle.election.specs.Electing.{counted, elected}
use Rattle.election.specs.Failing.{suspected}
use Rattle.election.specs.Health.{Candidate}
use Rattle.election.specs.Voting.{may_grant}
use Rattle.election.specs.declared.running.Elected.{Elected}
use Rattle.election.specs.declared.voter.VoteRequest.{VoteRequest}
use Rattle.slot_table.specs.Claims.{merged}
use Rattle.slot_table.specs.Runs.{runs_of}
use Rattle.slot_table.specs.Table.{claim_at, entry_at, owner_at, owner_in}
use Rattle.slot_table.specs.declared.entry.SlotEntry.{SlotEntry}
use Rattle.slot_table.specs.declared.runs.Run.{Run}
use Rattle.slot_state.specs.Importing.{import_verdict}
use Rattle.slot_state.specs.Migrating.{migrate_verdict}
use Rattle.slot_state.specs.Moves.{Moves, last_move_of, move_of}
use Rattle.slot_state.specs.declared.ending.NodeVerdict.{NodeVerdict}
use Rattle.slot_state.specs.declared.ending.NodeVerdict.TheVariants as ending
use Rattle.slot_state.specs.declared.importing.ImportVerdict.{ImportVerdict}
use Rattle.slot_state.specs.declared.importing.ImportVerdict.TheVariants as import
use Rattle.slot_state.specs.declared.migrating.MigrateVerdict.{MigrateVerdict}
use Rattle.slot_state.specs.declared.migrating.MigrateVerdict.TheVariants as migrate
use Rattle.slot_state.specs.declared.running.Move.{Move}
use Rattle.slot_state.specs.declared.copy_id.CopyId.{CopyId}
use Rattle.redirect.specs.Decision.{by_keys}
use Rattle.redirect.specs.declared.asked.Asking.{Asking}
use Rattle.redirect.specs.declared.decision.Decision.{Decision}
use Rattle.redirect.specs.declared.decision.Decision.TheVariants.{Serve, ServeImport, CrossSlot, Down, TryAgain, Ask, Moved}
use Rattle.migrate.specs.Acknowledging.{acknowledged_keys}
use Rattle.migrate.specs.Arriving.{arrival_verdict}
use Rattle.migrate.specs.Draining.{note_drained}
use Rattle.migrate.specs.Arriving.{changed_at}
use Rattle.migrate.specs.declared.arriving.ArrivalVerdict.{ArrivalVerdict}
use Rattle.migrate.specs.declared.arriving.ArrivalVerdict.TheVariants.{Ignored, Installs, Repeats}
use Rattle.migrate.specs.declared.sending.CopyVerdict.{CopyVerdict}
use Rattle.migrate.specs.declared.sending.CopyVerdict.TheVariants as copies
use Rattle.bus.specs.Follower.{Follower}
use Rattle.bus.specs.Piece.{PieceVerdict, verdict_on}
use Rattle.bus.specs.Piece.PieceVerdict.{Gap, OtherStream, Takes}
use Rattle.bus.specs.Snapshot.{restored}
use Rattle.bus.specs.Stream.{is_same}
use Rattle.bus.specs.Syncing.{answer_to}
use Rattle.bus.specs.declared.message.Body.{Body}
use Rattle.bus.specs.declared.bodies.ElectionBody.TheVariants as of_election
use Rattle.bus.specs.declared.bodies.SlotsBody.TheVariants as of_slots
use Rattle.bus.specs.declared.bodies.StreamBody.TheVariants as of_stream
use Rattle.bus.specs.declared.message.Body.TheVariants as body
use Rattle.bus.specs.declared.bodies.Handing.{Handing}
use Rattle.bus.specs.declared.message.Message.{Message}
use Rattle.bus.specs.declared.stream_id.StreamId.{StreamId}
use Rattle.bus.specs.declared.answer.SyncAnswer.{SyncAnswer}
use Rattle.bus.specs.declared.answer.SyncAnswer.TheVariants as answers
use Rattle.bus.specs.declared.sync.Sync.{Sync}
use Rattle.connections.specs.Connections.{connection_at, may_ask}
use Rattle.connections.specs.declared.conn.Conn.{Conn}
use Rattle.connections.specs.declared.conn.Connection.{Connection}
use Rattle.one_slot.specs.Sent.{Sent}
use Rattle.one_slot.specs.Sent.Sent.{Claimed}
use Rattle.node_step.specs.Claiming.{claim, claimed_by}
use Rattle.node_step.specs.Commands.{command_outcome, decision_on, drained_by_command, executed, served, asked_of}
use Rattle.node_step.proofs.Copied.{copied_next, sent_again_of}
use Rattle.node_step.specs.Copies.{acknowledged, arrived, copy_outcome, copy_verdict_on, first_slot, keep_limits, node_at, noted, those_there}
use Rattle.node_step.proofs.Ready.{in_election_keeps, ready_keeps}
use Rattle.node_step.specs.Failing.{a_tick_older, members_of}
use Rattle.node_step.specs.Messages.{Choice, delivered, ready, taken, taken_so, written_by_message}
use Rattle.node_step.specs.Orders.{claim_of, ending_outcome, ending_verdict, import_outcome, migrate_outcome, others, to_all}
use Rattle.node_step.specs.Outcome.{Outcome, outputs_of, silent}
use Rattle.node_step.specs.Requests.{asking_of, by_command, cluster_outcome, is_numbered, node_with_id, order_outcome, request_outcome, using_up}
use Rattle.node_step.specs.Roles.{is_just, replicas_of}
use Rattle.node_step.specs.State.{NodeState, is_replica, own_master, standing}
use Rattle.node_step.specs.Step.{IsAnswering, IsClosing, MayCome, written}
use Rattle.node_step.specs.Replicas.{follower_of, sync_answer, sync_to, with_follower, with_piece}
use Rattle.node_step.specs.Streams.{Requests, with_written}
use Rattle.node_step.specs.Handovers.{asked_again, failover, handed_again, handed_to, handing_of, handing_over, is_at_end, is_free_for, may_pause, noting}
use Rattle.node_step.specs.Promotion.{handed_promotion, promotion, promotion_to, table_handed}
use Rattle.node_step.specs.Ticks.{older, sent_again, slots_tick, tick}
use Rattle.node_step.specs.Voting.{due_epoch, grant_to, if_elected, request_of, requests_in, voters_of, voting}
use Rattle.node_step.specs.declared.event.Event.{Event}
use Rattle.node_step.specs.declared.event.Event.TheVariants.{Open, Close, Request, Deliver, Tick}
use Rattle.node_step.specs.declared.response.Response.{Response}
use Rattle.node_step.specs.declared.response.Why.TheVariants.{Decided}
use Rattle.world_run.specs.Executed.{Answered, Redirection, answered, answered_with, if_served, redirection_in}
use Rattle.world_run.specs.Run.Deed.{Made}
use Rattle.single_keyspace.specs.Slots.{values_in}
use Rattle.single_keyspace.specs.Stands.{Says}
use Rattle.single_keyspace.proofs.Lists.{contains_nothing, contains_one, from_flat_map, from_map}
use Rattle.single_keyspace.proofs.Lost.{claimed_owner, length_merged, merged_cases, move_left}
use Rattle.single_keyspace.proofs.Running.{got_from_entry}
use Rattle.single_keyspace.proofs.Seen.{no_some, same_some}
use Rattle.single_keyspace.proofs.Sendings.{claim_justified}
use Rattle.single_keyspace.proofs.Served.{decided_in, one_reply}
use Rattle.node_step.proofs.WithWritten.{with_written_promoted, with_written_response}
use Rattle.single_keyspace.proofs.Steps.{RepliesAs, next_of}
use Rattle.single_keyspace.proofs.Values.{values_alike}
use Rattle.single_keyspace.proofs.Verdicts.{ack_counts, asks, copy_arrives, copy_repeats, import_ends, import_runs, migration_runs, replicas_import_nothing, replicas_migrate_nothing, serves, serves_import}

-- the step is no promotion
abbrev pub IsNoEnd : Outcome → Type 0
IsNoEnd outcome = outcome.promoted ≡ None

-- a node at which no slot moves, and which serves none: it is a replica, or hands its slots over
pub record IdleStands (n : ℕ) (node : NodeState) : Type 0 where
  pub number_is : node.number ≡ n
  pub slots : length node.table ≡ 16384
  pub bars : (is_replica node ≡ true) ⊎ (is_some node.paused ≡ true)
  pub rests : (slot : ℕ) → owner_at node.table slot ≡ Some n → is_some node.paused ≡ true
  pub idle : (slot : ℕ) → move_of node.moves slot ≡ None

-- a message says nothing of a slot but a claim that the table has
abbrev IsMute : ℕ → List (Option SlotEntry) → ℕ → Body → Type 0
IsMute n table to said = (slot : ℕ) (sent : Sent Value) → Says slot n to said sent
    → (epoch : ℕ) × (sent ≡ Claimed n epoch) × (entry_at table slot ≡ Some (record { epoch = epoch; owner = n }))

abbrev pub AreMute : ℕ → List (Option SlotEntry) → List (ℕ × Body) → Type 0
AreMute n table sent = (to : ℕ) (said : Body) → Contains sent (to, said) → IsMute n table to said

-- what a step of such a node leaves: it is one still, in its role, it says nothing of slots but claims, and executes only what has no keys
pub record IdleStep (n : ℕ) (role : Bool) (paused : Option ℕ) (last : fin_map.FinMap nat_cmp ℕ) (one : Keyspace) (answer : Option Answered) (outcome : Outcome) : Type 0 where
  pub node : IdleStands n outcome.state
  pub role_is : is_replica outcome.state ≡ role
  pub pausing : (replica : ℕ) → paused ≡ Some replica → outcome.state.paused ≡ Some replica
  pub lasts : outcome.state.moves.last ≡ last
  pub mute : AreMute n outcome.state.table outcome.sent
  pub told : (redirection : Redirection) → redirection_in answer ≡ Some redirection → ⊥
  pub replies : RepliesAs one (if_served answer)
  pub stays : (slot : ℕ) (key : List ℕ) → values_in (next_of one (if_served answer)) slot key ≡ values_in one slot key

-- ---- what isn't said

mute_nothing : (n : ℕ) (table : List (Option SlotEntry)) → AreMute n table []
mute_nothing n table to said among = absurd (contains_nothing (to, said) among)

mute_both : (n : ℕ) (table : List (Option SlotEntry)) (sent others : List (ℕ × Body)) → AreMute n table sent → AreMute n table others → AreMute n table (sent ++ others)
mute_both n table sent others first second to said among =
    elim (Contains-append_cases sent others (to, said) among) [
      | inl one ↦ first to said one
      | inr other ↦ second to said other
    ]

mute_one : (n : ℕ) (table : List (Option SlotEntry)) (to : ℕ) (said : Body) → IsMute n table to said → AreMute n table ((to, said) ∷ [])
mute_one n table to said mute other body among = subst (λ (p : ℕ × Body). IsMute n table p.0 p.1) (contains_one (to, said) (other, body) among) mute

mute_to_all : (n : ℕ) (table : List (Option SlotEntry)) (numbers : List ℕ) (said : Body) → ((to : ℕ) → IsMute n table to said) → AreMute n table (to_all numbers said)
mute_to_all n table numbers said mute to body among =
    let found = from_map (λ (number : ℕ). (number, said)) numbers (to, body) among in
    subst (λ (p : ℕ × Body). IsMute n table p.0 p.1) found.2 (mute found.0)

-- ---- what is put round a step

module _ {n : ℕ} {role : Bool} {paused : Option ℕ} {last : fin_map.FinMap nat_cmp ℕ} {one : Keyspace} where
  with_written_replica : (answer : Option Answered) (outcome : Outcome) (requests : Requests) (dropped : ℕ) → IdleStep n role paused last one answer outcome
      → IdleStep n role paused last one answer (with_written outcome requests dropped)
  with_written_replica answer outcome [] dropped step = step
  with_written_replica answer outcome (request ∷ requests) dropped step = record {
    node = record { number_is = step.node.number_is; slots = step.node.slots; bars = step.node.bars; rests = step.node.rests; idle = step.node.idle };
    role_is = step.role_is;
    pausing = step.pausing;
    lasts = step.lasts;
    mute = mute_both n outcome.state.table outcome.sent (to_all (replicas_of outcome.state.masters outcome.state.number) _) step.mute
        (mute_to_all n outcome.state.table (replicas_of outcome.state.masters outcome.state.number) _ (λ to slot sent says. absurd says));
    told = step.told;
    replies = step.replies;
    stays = step.stays;
  }

no_import : (node : NodeState) (slot : ℕ) (move : Option Move) (last : ℕ) (other asked : Option ℕ) (from number : ℕ) → (is_replica node ≡ true) ⊎ (is_some node.paused ≡ true)
    → import_verdict (standing node slot) move last other asked ≡ import.Begins from number → ⊥
no_import node slot move last other asked from number bars is =
    elim bars [
      | inl replica ↦ replicas_import_nothing (standing node slot) move last other asked from number replica is
      | inr paused ↦ both_ways (is_some node.paused) (import_runs (standing node slot) move last other asked from number is) paused
    ]

no_migration : (node : NodeState) (slot : ℕ) (move : Option Move) (last : ℕ) (other asked : Option ℕ) (to number : ℕ) → (is_replica node ≡ true) ⊎ (is_some node.paused ≡ true)
    → migrate_verdict (standing node slot) move last other asked ≡ migrate.Begins to number → ⊥
no_migration node slot move last other asked to number bars is =
    elim bars [
      | inl replica ↦ replicas_migrate_nothing (standing node slot) move last other asked to number replica is
      | inr paused ↦ both_ways (is_some node.paused) (migration_runs (standing node slot) move last other asked to number is) paused
    ]

free_is : (paused : Option ℕ) (from replica : ℕ) → is_free_for paused from ≡ true → paused ≡ Some replica → Some from ≡ Some replica
free_is None from replica free is = absurd (no_some refl is)
free_is (Some other) from replica free is = ap Some (sym (eqb-true other from free)) ∙ is

module _ {n : ℕ} {before : NodeState} (one : Keyspace) (stands : IdleStands n before) where
  abbrev pub Idly : Option Answered → Outcome → Type 0
  Idly answer outcome = IdleStep n (is_replica before) before.paused before.moves.last one answer outcome

  same_node : (after : NodeState) → after.number ≡ before.number → after.table ≡ before.table → after.moves ≡ before.moves → is_replica after ≡ is_replica before → after.paused ≡ before.paused → IdleStands n after
  same_node after number table moves role paused = record {
    number_is = number ∙ stands.number_is;
    slots = ap (λ (t : List (Option SlotEntry)). length t) table ∙ stands.slots;
    bars = elim stands.bars [ inl is ↦ inl (role ∙ is) | inr is ↦ inr (ap is_some paused ∙ is) ];
    rests = λ slot is. ap is_some paused ∙ stands.rests slot (sym (ap (λ t. owner_at t slot) table) ∙ is);
    idle = λ slot. ap (λ (m : Moves). move_of m slot) moves ∙ stands.idle slot;
  }

  quiet_replica : (answer : Option Answered) → if_served answer ≡ None → redirection_in answer ≡ None → (outcome : Outcome) → IdleStands n outcome.state → is_replica outcome.state ≡ is_replica before
      → ((replica : ℕ) → before.paused ≡ Some replica → outcome.state.paused ≡ Some replica) → outcome.state.moves.last ≡ before.moves.last → AreMute n outcome.state.table outcome.sent → Idly answer outcome
  quiet_replica answer not_served not_sent_on outcome node role pausing lasts mute = record {
    node = node;
    role_is = role;
    pausing = pausing;
    lasts = lasts;
    mute = mute;
    told = λ redirection is. no_some not_sent_on is;
    replies = subst (RepliesAs one) (sym not_served) tt;
    stays = λ slot key. ap (λ o. values_in (next_of one o) slot key) not_served;
  }

  -- nothing happens, or what happens says nothing
  plain : (answer : Option Answered) → if_served answer ≡ None → redirection_in answer ≡ None → (outcome : Outcome) → outcome.sent ≡ []
      → outcome.state.number ≡ before.number → outcome.state.table ≡ before.table → outcome.state.moves ≡ before.moves → is_replica outcome.state ≡ is_replica before → outcome.state.paused ≡ before.paused → Idly answer outcome
  plain answer not_served not_sent_on outcome none number table moves role paused =
      quiet_replica answer not_served not_sent_on outcome (same_node outcome.state number table moves role paused) role (λ replica is. paused ∙ is) (ap (λ (m : Moves). m.last) moves)
      (subst (AreMute n outcome.state.table) (sym none) (mute_nothing n outcome.state.table))

  -- ---- requests

  module _ (local : CommandsAreLocal) (words : List (List ℕ)) where
    abbrev Answers : Outcome → Type 0
    Answers outcome = Idly (answered_with words outcome.response) outcome

    import_replica : (slot : ℕ) (other asked : Option ℕ) (verdict : ImportVerdict)
        → import_verdict (standing before slot) (move_of before.moves slot) (last_move_of before.moves slot) other asked ≡ verdict → Answers (import_outcome before slot verdict)
    import_replica slot other asked import.UnknownNode is = plain _ refl refl (import_outcome before slot import.UnknownNode) refl refl refl refl refl refl
    import_replica slot other asked import.Already is = plain _ refl refl (import_outcome before slot import.Already) refl refl refl refl refl refl
    import_replica slot other asked import.HandingOver is = plain _ refl refl (import_outcome before slot import.HandingOver) refl refl refl refl refl refl
    import_replica slot other asked import.Busy is = plain _ refl refl (import_outcome before slot import.Busy) refl refl refl refl refl refl
    import_replica slot other asked import.AlreadyOwner is = plain _ refl refl (import_outcome before slot import.AlreadyOwner) refl refl refl refl refl refl
    import_replica slot other asked import.NotOwner is = plain _ refl refl (import_outcome before slot import.NotOwner) refl refl refl refl refl refl
    import_replica slot other asked import.OldMove is = plain _ refl refl (import_outcome before slot import.OldMove) refl refl refl refl refl refl
    import_replica slot other asked (import.Begins from number) is =
        absurd (no_import before slot (move_of before.moves slot) (last_move_of before.moves slot) other asked from number stands.bars is)

    migration_replica : (slot : ℕ) (other asked : Option ℕ) (verdict : MigrateVerdict)
        → migrate_verdict (standing before slot) (move_of before.moves slot) (last_move_of before.moves slot) other asked ≡ verdict → Answers (migrate_outcome before slot verdict)
    migration_replica slot other asked migrate.UnknownNode is = plain _ refl refl (migrate_outcome before slot migrate.UnknownNode) refl refl refl refl refl refl
    migration_replica slot other asked migrate.Already is = plain _ refl refl (migrate_outcome before slot migrate.Already) refl refl refl refl refl refl
    migration_replica slot other asked migrate.HandingOver is = plain _ refl refl (migrate_outcome before slot migrate.HandingOver) refl refl refl refl refl refl
    migration_replica slot other asked migrate.Busy is = plain _ refl refl (migrate_outcome before slot migrate.Busy) refl refl refl refl refl refl
    migration_replica slot other asked migrate.NotOwner is = plain _ refl refl (migrate_outcome before slot migrate.NotOwner) refl refl refl refl refl refl
    migration_replica slot other asked migrate.OldMove is = plain _ refl refl (migrate_outcome before slot migrate.OldMove) refl refl refl refl refl refl
    migration_replica slot other asked (migrate.Begins to number) is =
        absurd (no_migration before slot (move_of before.moves slot) (last_move_of before.moves slot) other asked to number stands.bars is)

    ending_replica : (slot : ℕ) (other asked : Option ℕ) (verdict : NodeVerdict) → ending_verdict before slot other asked ≡ verdict → Answers (ending_outcome before slot verdict)
    ending_replica slot other asked ending.UnknownNode is = plain _ refl refl (ending_outcome before slot ending.UnknownNode) refl refl refl refl refl refl
    ending_replica slot other asked ending.OldMove is = plain _ refl refl (ending_outcome before slot ending.OldMove) refl refl refl refl refl refl
    ending_replica slot other asked ending.NotDrained is = plain _ refl refl (ending_outcome before slot ending.NotDrained) refl refl refl refl refl refl
    ending_replica slot other asked ending.IsOwner is = plain _ refl refl (ending_outcome before slot ending.IsOwner) refl refl refl refl refl refl
    ending_replica slot other asked ending.NotYetOwner is = plain _ refl refl (ending_outcome before slot ending.NotYetOwner) refl refl refl refl refl refl
    ending_replica slot other asked (ending.Ends drained) is =
        let facts = import_ends (standing before slot) (move_of before.moves slot) other asked drained is in absurd (no_some (stands.idle slot) facts.3)

    copy_replica : (conn : Conn) (named : List (List ℕ)) (ticks : ℕ) (target : Option ℕ) (verdict : CopyVerdict) → copy_verdict_on before named target ≡ verdict
        → Answers (copy_outcome before conn (first_slot named) (those_there before.keyspace named) ticks verdict)
    copy_replica conn named ticks target copies.CrossSlot is = plain _ refl refl (copy_outcome before conn (first_slot named) (those_there before.keyspace named) ticks copies.CrossSlot) refl refl refl refl refl refl
    copy_replica conn named ticks target copies.WrongTarget is = plain _ refl refl (copy_outcome before conn (first_slot named) (those_there before.keyspace named) ticks copies.WrongTarget) refl refl refl refl refl refl
    copy_replica conn named ticks target copies.NoKey is = plain _ refl refl (copy_outcome before conn (first_slot named) (those_there before.keyspace named) ticks copies.NoKey) refl refl refl refl refl refl
    copy_replica conn named ticks target copies.CopyOutstanding is = plain _ refl refl (copy_outcome before conn (first_slot named) (those_there before.keyspace named) ticks copies.CopyOutstanding) refl refl refl refl refl refl
    copy_replica conn named ticks target copies.Exhausted is = plain _ refl refl (copy_outcome before conn (first_slot named) (those_there before.keyspace named) ticks copies.Exhausted) refl refl refl refl refl refl
    copy_replica conn named ticks target (copies.SendAgain to number copy) is = absurd (no_some (stands.idle _) (sent_again_of before named target to number copy is).1)
    copy_replica conn named ticks target (copies.Copies to number copy) is = absurd (no_some (stands.idle _) (copied_next before named target to number copy is).move)

    -- ---- commands on keys

    module _ (command : DataCommand) (reads : command_of words ≡ Ok (Data command)) (asking : Asking) where
      nothing_among : data_keys command ≡ [] → (key : List ℕ) → Contains (data_keys command) key → ⊥
      nothing_among none key among = contains_nothing key (subst (λ (keys : List (List ℕ)). Contains keys key) none among)

      -- one that has no keys
      executed_replica : (why : Decision) → data_keys command ≡ []
          → if_served (answered_with words (served before command why).response) ≡ Some (record { words = words; answer = record { why = Decided why; reply = (exec before.keyspace command).reply } })
          → redirection_in (answered_with words (served before command why).response) ≡ None → Answers (served before command why)
      executed_replica why none is_served not_sent_on = record {
        node = same_node (executed before command) refl refl refl refl refl;
        role_is = refl;
        pausing = λ replica is. is;
        lasts = refl;
        mute = subst (λ (keys : List (List ℕ)). AreMute n before.table (drained_by_command before (executed before command) keys)) (sym none) (mute_nothing n before.table);
        told = λ redirection is. no_some not_sent_on is;
        replies = subst (RepliesAs one) (sym is_served)
            (one_reply command (local command) before.keyspace one 0 (λ key among. absurd (nothing_among none key among)) (λ key among. absurd (nothing_among none key among))
            ∙ ap (λ (r : Result Command CommandFault). (execution_of one r).reply) (sym reads));
        stays = λ slot key.
            ap (λ o. values_in (next_of one o) slot key) is_served
            ∙ ap (λ (r : Result Command CommandFault). values_in (execution_of one r).after slot key) reads
            ∙ values_alike (exec one command).after one slot key (λ here. (local command).outside one key (nothing_among none key));
      }

      not_asked : (other to number : ℕ) → decision_on before command asking ≡ Ask other to number → ⊥
      not_asked other to number is =
          elim (decided_in before command asking (Ask other to number) is) [
            | inl none ↦
                let serve : Serve ≡ Ask other to number =
                subst (λ (keys : List (List ℕ)). by_keys before.table before.moves before.number keys (asked_of before command asking) ≡ Ask other to number) none is in
                grind arith
            | inr (inl cross) ↦ grind arith
            | inr (inr found) ↦
                let asks_so = asks found.0 (owner_at before.table found.0) (move_of before.moves found.0) before.number (asked_of before command asking) other to number found.1.decides in
                no_some (stands.idle found.0) asks_so.2
          ]

      data_replica : (numbered : Bool) (why : Decision) → decision_on before command asking ≡ why → Answers (command_outcome before numbered command why)
      data_replica numbered Serve is =
          elim (decided_in before command asking Serve is) [
            | inl none ↦ executed_replica Serve none refl refl
            | inr (inl cross) ↦ absurd (grind arith)
            | inr (inr found) ↦
                elim (serves found.0 (owner_at before.table found.0) (move_of before.moves found.0) before.number (asked_of before command asking) found.1.decides) [
                  | inl own ↦ absurd (both_ways (is_some before.paused) own.2 (stands.rests found.0 (own.1 ∙ ap Some stands.number_is)))
                  | inr leaving ↦ absurd (no_some (stands.idle found.0) leaving.4)
                ]
          ]
      data_replica numbered (ServeImport number) is =
          elim (decided_in before command asking (ServeImport number) is) [
            | inl none ↦ executed_replica (ServeImport number) none refl refl
            | inr (inl cross) ↦ absurd (grind arith)
            | inr (inr found) ↦
                let facts = serves_import found.0 (owner_at before.table found.0) (move_of before.moves found.0) before.number (asked_of before command asking) number found.1.decides in
                absurd (no_some (stands.idle found.0) facts.3)
          ]
      data_replica numbered CrossSlot is = plain _ refl refl (command_outcome before numbered command CrossSlot) refl refl refl refl refl refl
      data_replica numbered Down is = plain _ refl refl (command_outcome before numbered command Down) refl refl refl refl refl refl
      data_replica numbered (TryAgain reason) is = plain _ refl refl (command_outcome before numbered command (TryAgain reason)) refl refl refl refl refl refl
      data_replica numbered (Moved slot to) is = plain _ refl refl (command_outcome before numbered command (Moved slot to)) refl refl refl refl refl refl
      data_replica numbered (Ask other to number) is = absurd (not_asked other to number is)

    order_replica : (slot : ℕ) (order : SlotOrder) (other number : Option ℕ) → Answers (order_outcome before slot order other number)
    order_replica slot Importing other number = import_replica slot other number (import_verdict (standing before slot) (move_of before.moves slot) (last_move_of before.moves slot) other number) refl
    order_replica slot Migrating other number = migration_replica slot other number (migrate_verdict (standing before slot) (move_of before.moves slot) (last_move_of before.moves slot) other number) refl
    order_replica slot Node other number = ending_replica slot other number (ending_verdict before slot other number) refl

    failover_replica : (master : Option ℕ) → Answers (failover before master)
    failover_replica None = plain _ refl refl (failover before None) refl refl refl refl refl refl
    failover_replica (Some master) =
        quiet_replica _ refl refl (failover before (Some master)) (same_node (failover before (Some master)).state refl refl refl refl refl) refl (λ replica is. is) refl
        (mute_one n before.table master (body.Election (of_election.Pause before.stream.held.id)) (λ slot sent says. absurd says))

    cluster_replica : (conn : Conn) (command : ClusterCommand) → Answers (cluster_outcome before conn command)
    cluster_replica conn (cluster.KeySlot key) = plain _ refl refl (cluster_outcome before conn (cluster.KeySlot key)) refl refl refl refl refl refl
    cluster_replica conn cluster.MyId = plain _ refl refl (cluster_outcome before conn cluster.MyId) refl refl refl refl refl refl
    cluster_replica conn cluster.Slots = plain _ refl refl (cluster_outcome before conn cluster.Slots) refl refl refl refl refl refl
    cluster_replica conn (cluster.CountKeysInSlot slot) = plain _ refl refl (cluster_outcome before conn (cluster.CountKeysInSlot slot)) refl refl refl refl refl refl
    cluster_replica conn (cluster.GetKeysInSlot slot count) = plain _ refl refl (cluster_outcome before conn (cluster.GetKeysInSlot slot count)) refl refl refl refl refl refl
    cluster_replica conn (cluster.SlotState slot) = plain _ refl refl (cluster_outcome before conn (cluster.SlotState slot)) refl refl refl refl refl refl
    cluster_replica conn (cluster.SetSlot slot order id number) = order_replica slot order (node_with_id before id) number
    cluster_replica conn cluster.Numbered = plain _ refl refl (cluster_outcome before conn cluster.Numbered) refl refl refl refl refl refl
    cluster_replica conn cluster.Failover = failover_replica (own_master before)
    cluster_replica conn (cluster.Asking number) = plain _ refl refl (cluster_outcome before conn (cluster.Asking number)) refl refl refl refl refl refl
    cluster_replica conn (cluster.Migrate host port keys timeout) = copy_replica conn keys timeout (node_at before host port) (copy_verdict_on before keys (node_at before host port)) refl

    command_replica : (conn : Conn) (connection : Option Connection) (command : Result Command CommandFault) → command_of words ≡ command → Answers (by_command before conn connection command)
    command_replica conn connection (Err fault) reads = plain _ refl refl (by_command before conn connection (Err fault)) refl refl refl refl refl refl
    command_replica conn connection (Ok (Cluster command)) reads = cluster_replica conn command
    command_replica conn connection (Ok (Data command)) reads =
        data_replica command reads (asking_of connection) (is_numbered connection) (decision_on before command (asking_of connection)) refl

  -- ---- messages

  copy_arrives_replica : (from : ℕ) (id : CopyId) (pairs : List (List ℕ × Value)) (verdict : ArrivalVerdict)
      → arrival_verdict (move_of before.moves id.slot) from id.number id.copy (keep_limits pairs) ≡ verdict → Idly None (arrived before from id pairs verdict)
  copy_arrives_replica from id pairs Ignored is = plain None refl refl (arrived before from id pairs Ignored) refl refl refl refl refl refl
  copy_arrives_replica from id pairs Repeats is =
      let facts = copy_repeats (move_of before.moves id.slot) from id.number id.copy (keep_limits pairs) is in absurd (no_some (stands.idle id.slot) facts.2)
  copy_arrives_replica from id pairs Installs is =
      let facts = copy_arrives (move_of before.moves id.slot) from id.number id.copy (keep_limits pairs) is in absurd (no_some (stands.idle id.slot) facts.2)

  ack_replica : (from : ℕ) (id : CopyId) (keys : Option (List (List ℕ))) → acknowledged_keys (move_of before.moves id.slot) from id.number id.copy ≡ keys → Idly None (acknowledged before id keys)
  ack_replica from id None is = plain None refl refl (silent before) refl refl refl refl refl refl
  ack_replica from id (Some keys) is = absurd (no_some (stands.idle id.slot) (ack_counts (move_of before.moves id.slot) from id.number id.copy keys is))

  drained_replica : (from slot number epoch : ℕ) → Idly None (noted before from slot number epoch)
  drained_replica from slot number epoch =
      subst (λ (move : Option Move). Idly None (silent (record before { moves = changed_at before.moves slot (note_drained from number epoch) move }))) (sym (stands.idle slot))
      (plain None refl refl (silent before) refl refl refl refl refl refl)

  no_move : (b : Bool) (move : Option Move) → move ≡ None → cond b move None ≡ None
  no_move true move is = is
  no_move false move is = refl

  claim_replica : (from : ℕ) (runs : List (Run ℕ)) → Idly None (claim before from runs)
  claim_replica from runs = by_sender (from == before.number) refl
    where
      by_sender : (b : Bool) → (from == before.number) ≡ b → Idly None (cond b (silent before) (claimed_by before (merged before.table runs from)))
      by_sender true own = plain None refl refl (silent before) refl refl refl refl refl refl
      by_sender false other =
          let apart : from ≢ n = λ same. eqb-false from before.number other (same ∙ sym stands.number_is) in
          quiet_replica None refl refl (claimed_by before (merged before.table runs from))
          (record {
            number_is = stands.number_is;
            slots = length_merged before.table runs from;
            bars = stands.bars;
            rests = λ slot named.
                elim (merged_cases before.table runs from slot stands.slots) [
                  | inl stays ↦ stands.rests slot (ap owner_in (sym stays) ∙ named)
                  | inr taken_now ↦ absurd (apart (sym (claimed_owner runs from slot taken_now.0 taken_now.1) ∙ same_some (ap owner_in taken_now.3) named))
                ];
            idle = λ slot. move_left before (merged before.table runs from) slot ∙ no_move _ (move_of before.moves slot) (stands.idle slot);
          })
          refl (λ replica is. is) refl (mute_nothing n (merged before.table runs from))

  answer_mute : (from : ℕ) (answer : SyncAnswer) → AreMute n before.table (sync_answer before from answer)
  answer_mute from answers.UpToDate = mute_nothing n before.table
  answer_mute from (answers.Piece piece) = mute_one n before.table from (body.Stream (of_stream.Piece piece)) (λ slot sent says. absurd says)
  answer_mute from answers.Snapshot = mute_one n before.table from _ (λ slot sent says. absurd says)

  sync_replica : (from : ℕ) (sync : Sync) (b : Bool) → Idly None (cond b (silent before) (record (silent before) { sent = sync_answer before from (answer_to before.stream sync) }))
  sync_replica from sync true = plain None refl refl (silent before) refl refl refl refl refl refl
  sync_replica from sync false =
      quiet_replica None refl refl (record (silent before) { sent = sync_answer before from (answer_to before.stream sync) }) (same_node before refl refl refl refl refl) refl (λ replica is. is) refl
      (answer_mute from (answer_to before.stream sync))

  piece_replica : (follower : Follower) (verdict : PieceVerdict) (b : Bool) → Idly None (silent (cond b (with_piece before follower verdict) before))
  piece_replica follower verdict false = plain None refl refl (silent before) refl refl refl refl refl refl
  piece_replica follower Gap true = plain None refl refl (silent before) refl refl refl refl refl refl
  piece_replica follower OtherStream true = plain None refl refl (silent before) refl refl refl refl refl refl
  piece_replica follower (Takes place) true = plain None refl refl (silent (with_follower before follower)) refl refl refl refl refl refl

  snapshot_replica : (follower : Follower) (b : Bool) → Idly None (silent (cond b (with_follower before follower) before))
  snapshot_replica follower false = plain None refl refl (silent before) refl refl refl refl refl refl
  snapshot_replica follower true = plain None refl refl (silent (with_follower before follower)) refl refl refl refl refl refl

  vote_replica : (request : VoteRequest) (granted : Bool) → Idly None (voting before request granted)
  vote_replica request granted =
      quiet_replica None refl refl (voting before request granted) (same_node (voting before request granted).state refl refl refl refl refl) refl (λ replica is. is) refl (grant granted)
    where
      grant : (granted : Bool) → AreMute n before.table (grant_to request granted)
      grant true = mute_one n before.table request.candidate (body.Election (of_election.Grant request.epoch)) (λ slot sent says. absurd says)
      grant false = mute_nothing n before.table

  -- it isn't promoted
  grant_replica : (candidate : Candidate) (won : Option Elected) → IsNoEnd (if_elected (record before { candidate = candidate }) won)
      → Idly None (if_elected (record before { candidate = candidate }) won)
  grant_replica candidate None not_now = plain None refl refl (silent (record before { candidate = candidate })) refl refl refl refl refl refl
  grant_replica candidate (Some won) not_now = by_plan candidate.planned not_now
    where
      handed : (master : Option ℕ) (told : Option Handing) → IsNoEnd (handed_promotion (record before { candidate = candidate }) won.epoch master told)
          → Idly None (handed_promotion (record before { candidate = candidate }) won.epoch master told)
      handed None told not_now = plain None refl refl (silent (record before { candidate = candidate })) refl refl refl refl refl refl
      handed (Some master) None not_now = plain None refl refl (silent (record before { candidate = candidate })) refl refl refl refl refl refl
      handed (Some master) (Some handing) not_now = by_place (is_at_end before.stream (Some handing)) not_now
        where
          by_place : (b : Bool) → IsNoEnd (cond b (promotion_to (record before { candidate = candidate }) master won.epoch true (table_handed before handing.slots won.epoch)) (silent (record before { candidate = candidate })))
              → Idly None (cond b (promotion_to (record before { candidate = candidate }) master won.epoch true (table_handed before handing.slots won.epoch)) (silent (record before { candidate = candidate })))
          by_place true not_now = absurd (no_some not_now refl)
          by_place false not_now = plain None refl refl (silent (record before { candidate = candidate })) refl refl refl refl refl refl

      by_master : (master : Option ℕ) → IsNoEnd (promotion (record before { candidate = candidate }) won.epoch master)
          → Idly None (promotion (record before { candidate = candidate }) won.epoch master)
      by_master None not_now = plain None refl refl (silent (record before { candidate = candidate })) refl refl refl refl refl refl
      by_master (Some master) not_now = absurd (no_some not_now refl)

      by_plan : (planned : Bool)
          → IsNoEnd (cond planned (handed_promotion (record before { candidate = candidate }) won.epoch (own_master before) before.handover.note) (promotion (record before { candidate = candidate }) won.epoch (own_master before)))
          → Idly None (cond planned (handed_promotion (record before { candidate = candidate }) won.epoch (own_master before) before.handover.note) (promotion (record before { candidate = candidate }) won.epoch (own_master before)))
      by_plan true not_now = handed (own_master before) before.handover.note not_now
      by_plan false not_now = by_master (own_master before) not_now

  -- ---- handovers

  hands_mute : (replica : Option ℕ) (slots : List (Run ℕ)) → AreMute n before.table (handed_again before replica slots)
  hands_mute None slots = mute_nothing n before.table
  hands_mute (Some replica) [] = mute_nothing n before.table
  hands_mute (Some replica) (run ∷ slots) = mute_one n before.table replica (body.Election (of_election.Paused (handing_of before))) (λ slot sent says. absurd says)

  handed_mute : (replica : ℕ) (paused : Option ℕ) → AreMute n before.table (handed_to before replica paused)
  handed_mute replica None = mute_one n before.table replica (body.Election (of_election.Paused (handing_of before))) (λ slot sent says. absurd says)
  handed_mute replica (Some other) = hands_mute (Some replica) (claim_of before)

  pause_replica : (from : ℕ) (stream : StreamId) (b : Bool) → may_pause before from stream ≡ b → Idly None (cond b (handing_over before from) (silent before))
  pause_replica from stream true may =
      quiet_replica None refl refl (handing_over before from)
      (record { number_is = stands.number_is; slots = stands.slots; bars = inr refl; rests = λ slot named. refl; idle = stands.idle }) refl
      (λ replica is. free_is before.paused from replica (and_parts _ (is_free_for before.paused from) may).1 is) refl (handed_mute from before.paused)
  pause_replica from stream false may = plain None refl refl (silent before) refl refl refl refl refl refl

  noting_replica : (handing : Handing) (b : Bool) → Idly None (silent (cond b (record before { handover = noting before.handover handing }) before))
  noting_replica handing true = plain None refl refl (silent (record before { handover = noting before.handover handing })) refl refl refl refl refl refl
  noting_replica handing false = plain None refl refl (silent before) refl refl refl refl refl refl

  so_taken_replica : (from : ℕ) (choice : Choice) (said : Body) → IsNoEnd (taken_so before from choice said) → Idly None (taken_so before from choice said)
  so_taken_replica from choice (body.Slots (of_slots.Copy id pairs)) not_now =
      copy_arrives_replica from id pairs (arrival_verdict (move_of before.moves id.slot) from id.number id.copy (keep_limits pairs)) refl
  so_taken_replica from choice (body.Slots (of_slots.Ack id)) not_now = ack_replica from id (acknowledged_keys (move_of before.moves id.slot) from id.number id.copy) refl
  so_taken_replica from choice (body.Slots (of_slots.Drained slot number epoch)) not_now = drained_replica from slot number epoch
  so_taken_replica from choice (body.Slots (of_slots.Claim runs replaced)) not_now = claim_replica from runs
  so_taken_replica from choice (body.Report suspects) not_now = plain None refl refl (silent before) refl refl refl refl refl refl
  so_taken_replica from choice (body.Election (of_election.Candidacy request)) not_now = vote_replica (request_of from request) (may_grant before.voter (members_of before) before.health before.current_epoch (request_of from request))
  so_taken_replica from choice (body.Election (of_election.Grant epoch)) not_now =
      grant_replica (counted before.candidate (members_of before) from epoch) (elected before.candidate (members_of before) from epoch) not_now
  so_taken_replica from choice (body.Stream (of_stream.Sync sync)) not_now = sync_replica from sync (is_replica before)
  so_taken_replica from choice (body.Stream (of_stream.Piece piece)) not_now = piece_replica choice.follower (verdict_on before.stream piece) (is_just (own_master before) from)
  so_taken_replica from choice (body.Stream (of_stream.Snapshot snapshot)) not_now = snapshot_replica (restored snapshot (follower_of before)) (is_just (own_master before) from)
  so_taken_replica from choice (body.Election (of_election.Pause stream)) not_now = pause_replica from stream (may_pause before from stream) refl
  so_taken_replica from choice (body.Election (of_election.Paused handing)) not_now = noting_replica handing (is_replica before && is_same handing.stream before.stream.held.id)

  taken_replica : (from : ℕ) (choice : Choice) (said : Body) → IsNoEnd (taken before from choice said) → Idly None (taken before from choice said)
  taken_replica from choice said not_now =
      let outcome : Outcome = taken_so before from choice said in
      let requests : Requests = written_by_message before from said in
      with_written_replica None outcome requests choice.dropped
      (so_taken_replica from choice said (sym (with_written_promoted outcome requests choice.dropped) ∙ not_now))

module _ {n : ℕ} {before : NodeState} (one : Keyspace) (stands : IdleStands n before) where
  abbrev pub Idles : Option Answered → Outcome → Type 0
  Idles answer outcome = IdleStep n (is_replica before) before.paused before.moves.last one answer outcome

  delivered_replica : (message : Message) (choice : Choice) → IsNoEnd (delivered before message choice) → Idles None (delivered before message choice)
  delivered_replica message choice = by_target (message.to == before.number)
    where
      by_target : (b : Bool) → IsNoEnd (cond b (taken (ready before message) message.from choice message.body) (silent before))
          → Idles None (cond b (taken (ready before message) message.from choice message.body) (silent before))
      by_target false not_now = plain one stands None refl refl (silent before) refl refl refl refl refl refl
      by_target true not_now =
          ready_keeps (λ (node : NodeState). IsNoEnd (taken node message.from choice message.body) → Idles None (taken node message.from choice message.body)) before message
          (λ epoch masters health candidate handover role election not_so.
          let heard : NodeState = record before { current_epoch = epoch; masters = masters; health = health; candidate = candidate; handover = handover } in
          subst (λ (now : Bool). IdleStep n now before.paused before.moves.last one None (taken heard message.from choice message.body)) role
          (taken_replica one (same_node one stands heard refl refl refl role refl) message.from choice message.body not_so))
          not_now

  -- ---- a tick

  tick_replica : Idles None (tick before)
  tick_replica =
      in_election_keeps (λ (node : NodeState). Idles None (record (slots_tick before) { sent = (tick before).sent; state = node })) aged (due_epoch aged) (λ current candidate handover.
      quiet_replica one stands None refl refl (record (slots_tick before) { sent = (tick before).sent; state = record aged { current_epoch = current; candidate = candidate; handover = handover } })
      (same_node one stands (record aged { current_epoch = current; candidate = candidate; handover = handover }) refl refl refl refl refl) refl (λ replica is. is) refl mute)
    where
      aged : NodeState
      aged = a_tick_older (older before)

      no_moves : AreMute n before.table (flat_map (sent_again before) (fin_map.entries before.moves.running))
      no_moves to said among =
          let found = from_flat_map (sent_again before) (fin_map.entries before.moves.running) (to, said) among in
          absurd (no_some (stands.idle found.0.0) (got_from_entry before.moves.running found.0.0 found.0.1 found.1))

      -- it claims what is its own
      claims : AreMute n before.table (to_all (others before) (body.Slots (of_slots.Claim (claim_of before) before.replaced)))
      claims = mute_to_all n before.table (others before) (body.Slots (of_slots.Claim (claim_of before) before.replaced)) (λ to.
          subst (λ (number : ℕ). IsMute n before.table to (body.Slots (of_slots.Claim (runs_of (claim_at before.table number)) before.replaced))) (sym stands.number_is)
          (λ slot sent says. (says.0, says.2, claim_justified [] n before to before.replaced stands.slots slot says.0 says.1)))

      reports : AreMute n before.table (to_all (others before) (body.Report (suspected aged.health (members_of before))))
      reports = mute_to_all n before.table (others before) (body.Report (suspected aged.health (members_of before))) (λ to slot sent says. absurd says)

      sync : (master : Option ℕ) → AreMute n before.table (sync_to before.stream master)
      sync None = mute_nothing n before.table
      sync (Some master) = mute_one n before.table master _ (λ slot sent says. absurd says)

      requests : (epoch master : Option ℕ) → AreMute n before.table (requests_in aged epoch master)
      requests None master = mute_nothing n before.table
      requests (Some epoch) None = mute_nothing n before.table
      requests (Some epoch) (Some master) = mute_to_all n before.table (voters_of aged) _ (λ to slot sent says. absurd says)

      asks : (asked : Bool) (master : Option ℕ) → AreMute n before.table (asked_again asked before.stream.held.id master)
      asks true (Some master) = mute_one n before.table master _ (λ slot sent says. absurd says)
      asks true None = mute_nothing n before.table
      asks false master = mute_nothing n before.table

      mute : AreMute n before.table (tick before).sent
      mute =
          mute_both n before.table _ _
          (mute_both n before.table _ _
          (mute_both n before.table _ _
          (mute_both n before.table _ _ (mute_both n before.table _ _ no_moves (mute_both n before.table _ _ claims reports)) (sync (own_master before)))
          (asks before.handover.asked (own_master before)))
          (hands_mute one stands before.paused (claim_of before)))
          (requests (due_epoch aged) (own_master before))

  -- ---- any event

  pub skipped_replica : Idles None (silent before)
  skipped_replica = plain one stands None refl refl (silent before) refl refl refl refl refl refl

  closing_replica : (conn : Conn) (is_open : Bool) (outcome : Outcome) → MatchBool is_open (IsClosing before conn outcome) (outcome ≡ silent before) → Idles None outcome
  closing_replica conn false outcome may = subst (Idles None) (sym may) (plain one stands None refl refl (silent before) refl refl refl refl refl refl)
  closing_replica conn true outcome may =
      subst (Idles None) (sym may.comes_to) (plain one stands None refl refl (silent (record before { connections = outcome.state.connections })) refl refl refl refl refl refl)

  request_replica : CommandsAreLocal → (conn : Conn) (words : List (List ℕ)) (asks_now : Bool) (outcome : Outcome) → MatchBool asks_now (IsAnswering before conn words outcome) (outcome ≡ silent before)
      → Idles (answered_with words outcome.response) outcome
  request_replica local conn words false outcome may =
      subst (λ (o : Outcome). Idles (answered_with words o.response) o) (sym may) (plain one stands None refl refl (silent before) refl refl refl refl refl refl)
  request_replica local conn words true outcome may =
      let asked : Outcome = request_outcome before conn (command_of words) in
      let requests : Requests = written before conn words in
      let inner : Idles (answered_with words asked.response) asked =
      command_replica one (same_node one stands (using_up before conn) refl refl refl refl refl) local words conn (connection_at before.connections conn) (command_of words) refl in
      subst (λ (o : Outcome). Idles (answered_with words o.response) o) (sym may.comes_to)
      (subst (λ (r : Response). Idles (answered_with words r) (with_written asked requests may.dropped)) (sym (with_written_response asked requests may.dropped))
      (with_written_replica (answered_with words asked.response) asked requests may.dropped inner))

  pub event_replica : CommandsAreLocal → (ticket : ℕ) (event : Event) (outcome : Outcome) → MayCome before event outcome → IsNoEnd outcome
      → Idles (answered (Made event (outputs_of ticket outcome))) outcome
  event_replica local ticket Open outcome may not_now =
      subst (Idles None) (sym may.comes_to) (plain one stands None refl refl _ refl refl refl refl refl refl)
  event_replica local ticket (Close conn) outcome may not_now = closing_replica conn (is_some (connection_at before.connections conn)) outcome may
  event_replica local ticket (Request conn words) outcome may not_now = request_replica local conn words (may_ask (connection_at before.connections conn)) outcome may
  event_replica local ticket (Deliver message) outcome may not_now =
      subst (Idles None) (sym may.comes_to) (delivered_replica message may.choice (subst (λ (o : Outcome). IsNoEnd o) may.comes_to not_now))
  event_replica local ticket Tick outcome may not_now = subst (Idles None) (sym may.comes_to) tick_replica
