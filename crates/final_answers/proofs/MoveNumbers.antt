-- Each move under way at a node has a number that a redirection can name, from step to step.
use Rattle.std.proofs.Common.{◌≡◌, ◌+◌, ◌^◌, ◌∙◌, ◌==◌, ◌&&◌, ℕ, Bool, true, false, cond, List, [], ◌∷◌, Option, None, Some, is_some, refl, sym, ap, subst, inl, inr, arith}
use Rattle.std.proofs.lemmas.Bool.{cases_eq, ltb-true}
use Rattle.std.specs.FinMap as map
use Rattle.std.specs.Ordering.{nat_cmp}
use Rattle.std.specs.Prelude.{◌-◌, MatchBool, Result, Ok, Err, nat_lt, ⊤}
use Rattle.bus.specs.Stream.{is_same}
use Rattle.bus.specs.declared.message.Body.{Body}
use Rattle.bus.specs.declared.bodies.ElectionBody.TheVariants.{Candidacy as Requested, Grant, Pause, Paused}
use Rattle.bus.specs.declared.bodies.SlotsBody.TheVariants.{Copy, Ack, Drained, Claim}
use Rattle.bus.specs.declared.bodies.StreamBody.TheVariants.{Sync, Piece, Snapshot}
use Rattle.bus.specs.declared.message.Body.TheVariants.{Slots, Stream, Election, Report}
use Rattle.bus.specs.declared.message.Message.{Message}
use Rattle.bus.specs.declared.bodies.Handing.{Handing}
use Rattle.cluster_config.specs.Config.{ClusterConfig}
use Rattle.command_table.specs.Table.{command_of}
use Rattle.command_table.specs.declared.command.ClusterCommand.{ClusterCommand}
use Rattle.command_table.specs.declared.command.ClusterCommand.TheVariants as cluster
use Rattle.command_table.specs.declared.command.Command.{Command}
use Rattle.command_table.specs.declared.command.Command.TheVariants.{Data, Cluster}
use Rattle.command_table.specs.declared.command.DataCommand.{DataCommand}
use Rattle.command_table.specs.declared.command.SlotOrder.{SlotOrder}
use Rattle.command_table.specs.declared.command.SlotOrder.TheVariants.{Importing, Migrating, Node}
use Rattle.command_table.specs.declared.fault.CommandFault.{CommandFault}
use Rattle.connections.specs.Connections.{connection_at, may_ask}
use Rattle.connections.specs.declared.conn.Conn.{Conn}
use Rattle.connections.specs.declared.conn.Connection.{Connection}
use Rattle.migrate.specs.Acknowledging.{acknowledged_keys, unfrozen}
use Rattle.migrate.specs.Arriving.{after_arrival, arrival_verdict, changed_at, one_more}
use Rattle.migrate.specs.Draining.{note_drained}
use Rattle.migrate.specs.Sending.{are_just, by_keys, by_target, copy_verdict}
use Rattle.migrate.specs.declared.arriving.ArrivalVerdict.{ArrivalVerdict}
use Rattle.migrate.specs.declared.arriving.ArrivalVerdict.TheVariants as arrives
use Rattle.migrate.specs.declared.sending.CopyVerdict.{CopyVerdict}
use Rattle.migrate.specs.declared.sending.CopyVerdict.TheVariants as copies
use Rattle.node_step.specs.Claiming.{claimed_by}
use Rattle.node_step.specs.Commands.{command_outcome, decision_on}
use Rattle.node_step.specs.Copies.{acknowledged, copy_outcome, copy_verdict_on, first_slot, keep_limits, node_at, those_there}
use Rattle.redirect.specs.Decision.{has_other_slot}
use Rattle.node_step.proofs.Kept.{pieced_keeps, with_written_keeps, restored_keeps, synced_is}
use Rattle.election.specs.Electing.{elected}
use Rattle.election.specs.declared.running.Elected.{Elected}
use Rattle.node_step.proofs.Ready.{in_election_keeps, ready_keeps}
use Rattle.node_step.specs.Failing.{a_tick_older, members_of}
use Rattle.node_step.specs.Messages.{Choice, delivered, ready, taken, taken_so, written_by_message}
use Rattle.node_step.specs.Promotion.{handed_promotion, promotion, promotion_to, table_handed}
use Rattle.node_step.specs.Voting.{due_epoch, if_elected}
use Rattle.node_step.specs.Orders.{ending_outcome, ending_verdict, import_outcome, migrate_outcome}
use Rattle.node_step.specs.Outcome.{Outcome, silent}
use Rattle.node_step.specs.Requests.{asking_of, by_command, cluster_outcome, is_numbered, node_with_id, order_outcome, request_outcome, using_up}
use Rattle.node_step.specs.State.{NodeState, first_state, is_replica, own_master, standing}
use Rattle.node_step.specs.Ticks.{slots_tick}
use Rattle.node_step.specs.Step.{IsAnswering, IsClosing, MayCome, NodeStep, written}
use Rattle.node_step.specs.declared.event.Event.{Event}
use Rattle.node_step.specs.declared.event.Event.TheVariants.{Open, Close, Request, Deliver, Tick}
use Rattle.node_step.specs.declared.outputs.Outputs.{Outputs}
use Rattle.redirect.specs.declared.decision.Decision.{Decision}
use Rattle.redirect.specs.declared.decision.Decision.TheVariants.{Serve, ServeImport, CrossSlot, Down, TryAgain, Ask, Moved}
use Rattle.redirection.specs.Redirection.{IsMove}
use Rattle.single_keyspace.proofs.Maps.{gone_apart, gone_here, put_apart, put_here, retained_here}
use Rattle.single_keyspace.proofs.Seen.{no_some, same_some}
use Rattle.slot_state.specs.Importing.{import_beside, import_verdict, new_import, numbered_import}
use Rattle.slot_state.specs.Migrating.{migrate_beside, migrate_verdict, new_migration, numbered_migration}
use Rattle.slot_state.specs.Moves.{Moves, last_move_of, move_of}
use Rattle.slot_state.specs.Numbers.{is_named, new_number}
use Rattle.slot_state.specs.declared.ending.NodeVerdict.{NodeVerdict}
use Rattle.slot_state.specs.declared.ending.NodeVerdict.TheVariants as ending
use Rattle.slot_state.specs.declared.importing.ImportVerdict.{ImportVerdict}
use Rattle.slot_state.specs.declared.importing.ImportVerdict.TheVariants as import
use Rattle.slot_state.specs.declared.migrating.MigrateVerdict.{MigrateVerdict}
use Rattle.slot_state.specs.declared.migrating.MigrateVerdict.TheVariants as migrate
use Rattle.slot_state.specs.declared.order.Standing.{Standing}
use Rattle.slot_state.specs.declared.running.Move.{Move}
use Rattle.slot_state.specs.declared.running.Move.TheVariants.{Leaves, Comes}
use Rattle.slot_state.specs.declared.copy_id.CopyId.{CopyId}
use Rattle.slot_table.specs.Claims.{merged}
use Rattle.final_answers.proofs.OrderWords.{AsksWithin, words_within}
use Rattle.node_step.specs.Handovers.{failover, handing_over, is_at_end, may_pause, noting}
use Rattle.slot_table.specs.declared.entry.SlotEntry.{SlotEntry}

abbrev number_of : Move → ℕ
number_of (Leaves to number copies frozen) = number
number_of (Comes from number last drained) = number

-- a redirection can name the move
abbrev pub IsNameable : Move → Type 0
IsNameable move = IsMove (Some (number_of move))

abbrev Running : Type 0
Running = map.FinMap nat_cmp Move

abbrev AllNameable : Running → Type 0
AllNameable running = (slot : ℕ) (move : Move) → map.get running slot ≡ Some move → IsNameable move

-- and so each move under way at the node
abbrev pub HasNameable : NodeState → Type 0
HasNameable node = AllNameable node.moves.running

-- a choice has what both sides have
pub either : {A : Type 0} (P : A → Type 0) (b : Bool) (x y : A) → P x → P y → P (cond b x y)
either P true x y p q = p
either P false x y p q = q

-- ---- maps of moves

module _ (running : Running) (all : AllNameable running) (slot : ℕ) where
  put_nameable : (move : Move) → IsNameable move → AllNameable (map.insert running slot move)
  put_nameable move is other found at =
      elim (cases_eq other slot) [
        | inl same ↦ subst IsNameable (same_some (put_here running slot move) (ap (map.get (map.insert running slot move)) (sym same) ∙ at)) is
        | inr apart ↦ all other found (sym (put_apart running slot move other apart) ∙ at)
      ]

  gone_nameable : AllNameable (map.remove running slot)
  gone_nameable other found at =
      elim (cases_eq other slot) [
        | inl same ↦ absurd (no_some (gone_here running slot) (ap (map.get (map.remove running slot)) (sym same) ∙ at))
        | inr apart ↦ all other found (sym (gone_apart running slot other apart) ∙ at)
      ]

retained_nameable : (running : Running) → AllNameable running → (test : ℕ → Bool) → AllNameable (map.retain_keys running test)
retained_nameable running all test slot move at = by_test (test slot) (sym (retained_here running slot test) ∙ at)
  where
    by_test : (stays : Bool) → cond stays (map.get running slot) None ≡ Some move → IsNameable move
    by_test true is = all slot move is
    by_test false is = absurd (no_some refl is)

-- a move that goes on keeps its number
changed_nameable : (moves : Moves) (slot : ℕ) (change : Move → Move) → ((move : Move) → number_of (change move) ≡ number_of move) → AllNameable moves.running
    → AllNameable (changed_at moves slot change (move_of moves slot)).running
changed_nameable moves slot change same all = by_found (move_of moves slot) refl
  where
    by_found : (found : Option Move) → move_of moves slot ≡ found → AllNameable (changed_at moves slot change found).running
    by_found None is = all
    by_found (Some move) is = put_nameable moves.running all slot (change move) (subst (λ (n : ℕ). IsMove (Some n)) (sym (same move)) (all slot move is))

-- ---- a move begins

new_is_move : (last : ℕ) (asked : Option ℕ) → IsMove asked → IsMove (new_number last asked)
new_is_move last (Some asked) is = either IsMove (nat_lt last asked) (Some asked) None is tt
new_is_move last None is = by_room (nat_lt last 9223372036854775807) refl
  where
    by_room : (room : Bool) → nat_lt last 9223372036854775807 ≡ room → IsMove (cond room (Some (last + 1)) None)
    by_room true has = let below = ltb-true last 9223372036854775807 has in (omega arith, omega (arith, below))
    by_room false has = tt

abbrev ImportsSo : ImportVerdict → Type 0
ImportsSo (import.Begins from number) = IsMove (Some number)
ImportsSo _ = ⊤

numbered_so : (from : ℕ) (number : Option ℕ) → IsMove number → ImportsSo (numbered_import from number)
numbered_so from None is = tt
numbered_so from (Some number) is = is

new_import_so : (owner : Option ℕ) (node last from : ℕ) (asked : Option ℕ) → IsMove asked → ImportsSo (new_import owner node last from asked)
new_import_so None node last from asked is = tt
new_import_so (Some owner) node last from asked is =
    either ImportsSo (owner == node) _ _ tt (either ImportsSo (owner == from) _ _ (numbered_so from (new_number last asked) (new_is_move last asked is)) tt)

import_beside_so : (at : Standing) (move : Option Move) (last from : ℕ) (asked : Option ℕ) → IsMove asked → ImportsSo (import_beside at move last from asked)
import_beside_so at (Some (Comes source number copied drained)) last from asked is = either ImportsSo (source == from && is_named number asked) _ _ tt tt
import_beside_so at (Some (Leaves to number copied frozen)) last from asked is = tt
import_beside_so at None last from asked is = new_import_so at.owner at.node last from asked is

import_so : (at : Standing) (move : Option Move) (last : ℕ) (from asked : Option ℕ) → IsMove asked → ImportsSo (import_verdict at move last from asked)
import_so at move last None asked is = tt
import_so at move last (Some from) asked is =
    either ImportsSo (from == at.node) _ _ tt (either ImportsSo at.is_replica _ _ tt (either ImportsSo at.is_paused _ _ tt (import_beside_so at move last from asked is)))

abbrev MigratesSo : MigrateVerdict → Type 0
MigratesSo (migrate.Begins to number) = IsMove (Some number)
MigratesSo _ = ⊤

numbered_too : (to : ℕ) (number : Option ℕ) → IsMove number → MigratesSo (numbered_migration to number)
numbered_too to None is = tt
numbered_too to (Some number) is = is

new_migration_so : (owner : Option ℕ) (node last to : ℕ) (asked : Option ℕ) → IsMove asked → MigratesSo (new_migration owner node last to asked)
new_migration_so None node last to asked is = tt
new_migration_so (Some owner) node last to asked is =
    either MigratesSo (owner == node) _ _ (numbered_too to (new_number last asked) (new_is_move last asked is)) tt

migrate_beside_so : (at : Standing) (move : Option Move) (last to : ℕ) (asked : Option ℕ) → IsMove asked → MigratesSo (migrate_beside at move last to asked)
migrate_beside_so at (Some (Leaves target number copied frozen)) last to asked is = either MigratesSo (target == to && is_named number asked) _ _ tt tt
migrate_beside_so at (Some (Comes from number copied drained)) last to asked is = tt
migrate_beside_so at None last to asked is = new_migration_so at.owner at.node last to asked is

migrate_so : (at : Standing) (move : Option Move) (last : ℕ) (to asked : Option ℕ) → IsMove asked → MigratesSo (migrate_verdict at move last to asked)
migrate_so at move last None asked is = tt
migrate_so at move last (Some to) asked is =
    either MigratesSo (to == at.node) _ _ tt (either MigratesSo at.is_replica _ _ tt (either MigratesSo at.is_paused _ _ tt (migrate_beside_so at move last to asked is)))

imported_nameable : (node : NodeState) (slot : ℕ) (verdict : ImportVerdict) → ImportsSo verdict → HasNameable node → HasNameable (import_outcome node slot verdict).state
imported_nameable node slot import.UnknownNode so all = all
imported_nameable node slot import.Already so all = all
imported_nameable node slot import.HandingOver so all = all
imported_nameable node slot import.Busy so all = all
imported_nameable node slot import.AlreadyOwner so all = all
imported_nameable node slot import.NotOwner so all = all
imported_nameable node slot import.OldMove so all = all
imported_nameable node slot (import.Begins from number) so all = put_nameable node.moves.running all slot (Comes from number 0 None) so

migrated_nameable : (node : NodeState) (slot : ℕ) (verdict : MigrateVerdict) → MigratesSo verdict → HasNameable node → HasNameable (migrate_outcome node slot verdict).state
migrated_nameable node slot migrate.UnknownNode so all = all
migrated_nameable node slot migrate.Already so all = all
migrated_nameable node slot migrate.HandingOver so all = all
migrated_nameable node slot migrate.Busy so all = all
migrated_nameable node slot migrate.NotOwner so all = all
migrated_nameable node slot migrate.OldMove so all = all
migrated_nameable node slot (migrate.Begins to number) so all = put_nameable node.moves.running all slot (Leaves to number 0 None) so

ended_nameable : (node : NodeState) (slot : ℕ) (verdict : NodeVerdict) → HasNameable node → HasNameable (ending_outcome node slot verdict).state
ended_nameable node slot (ending.Ends drained) all = gone_nameable node.moves.running all slot
ended_nameable node slot ending.UnknownNode all = all
ended_nameable node slot ending.OldMove all = all
ended_nameable node slot ending.NotDrained all = all
ended_nameable node slot ending.IsOwner all = all
ended_nameable node slot ending.NotYetOwner all = all

order_nameable : (node : NodeState) (slot : ℕ) (order : SlotOrder) (other number : Option ℕ) → IsMove number → HasNameable node → HasNameable (order_outcome node slot order other number).state
order_nameable node slot Importing other number is all =
    imported_nameable node slot _ (import_so (standing node slot) (move_of node.moves slot) (last_move_of node.moves slot) other number is) all
order_nameable node slot Migrating other number is all =
    migrated_nameable node slot _ (migrate_so (standing node slot) (move_of node.moves slot) (last_move_of node.moves slot) other number is) all
order_nameable node slot Node other number is all = ended_nameable node slot (ending_verdict node slot other number) all

-- ---- keys are copied

abbrev CopiesSo : CopyVerdict → Type 0
CopiesSo (copies.Copies to number copy) = IsMove (Some number)
CopiesSo _ = ⊤

frozen_so : (to number copied : ℕ) (frozen : Option (List (List ℕ))) (keys : List (List ℕ)) → IsMove (Some number) → CopiesSo (by_keys to number copied frozen keys)
frozen_so to number copied frozen [] is = tt
frozen_so to number copied None (key ∷ keys) is = either CopiesSo (nat_lt copied (2 ^ 64 - 1)) (copies.Copies to number (copied + 1)) copies.Exhausted is tt
frozen_so to number copied (Some frozen) (key ∷ keys) is = either CopiesSo (are_just frozen (key ∷ keys)) (copies.SendAgain to number copied) copies.CopyOutstanding tt tt

target_so : (move : Move) (target : ℕ) (keys : List (List ℕ)) → IsNameable move → CopiesSo (by_target move target keys)
target_so (Comes from number last drained) target keys is = tt
target_so (Leaves to number copied frozen) target keys is = either CopiesSo (to == target) _ _ (frozen_so to number copied frozen keys is) tt

copy_so : (moves : Moves) (slot : ℕ) → AllNameable moves.running → (target : Option ℕ) (keys : List (List ℕ)) → CopiesSo (copy_verdict (move_of moves slot) target keys)
copy_so moves slot all target keys = by_found (move_of moves slot) refl target
  where
    by_found : (found : Option Move) → move_of moves slot ≡ found → (target : Option ℕ) → CopiesSo (copy_verdict found target keys)
    by_found None is target = tt
    by_found (Some move) is None = tt
    by_found (Some move) is (Some target) = target_so move target keys (all slot move is)

ordered_so : (node : NodeState) (named : List (List ℕ)) (target : Option ℕ) → HasNameable node → CopiesSo (copy_verdict_on node named target)
ordered_so node named target all =
    either CopiesSo (has_other_slot (first_slot named) named) _ _ tt (copy_so node.moves (first_slot named) all target (those_there node.keyspace named))

copied_nameable : (node : NodeState) (conn : Conn) (slot : ℕ) (keys : List (List ℕ)) (ticks : ℕ) (verdict : CopyVerdict) → CopiesSo verdict → HasNameable node → HasNameable (copy_outcome node conn slot keys ticks verdict).state
copied_nameable node conn slot keys ticks copies.CrossSlot so all = all
copied_nameable node conn slot keys ticks copies.WrongTarget so all = all
copied_nameable node conn slot keys ticks copies.NoKey so all = all
copied_nameable node conn slot keys ticks copies.CopyOutstanding so all = all
copied_nameable node conn slot keys ticks copies.Exhausted so all = all
copied_nameable node conn slot keys ticks (copies.SendAgain to number copy) so all = all
copied_nameable node conn slot keys ticks (copies.Copies to number copy) so all = put_nameable node.moves.running all slot (Leaves to number copy (Some keys)) so

-- ---- requests

command_nameable : (node : NodeState) (numbered : Bool) (command : DataCommand) (why : Decision) → HasNameable node → HasNameable (command_outcome node numbered command why).state
command_nameable node numbered command Serve all = all
command_nameable node numbered command (ServeImport number) all = all
command_nameable node numbered command CrossSlot all = all
command_nameable node numbered command Down all = all
command_nameable node numbered command (TryAgain reason) all = all
command_nameable node numbered command (Ask slot to number) all = all
command_nameable node numbered command (Moved slot to) all = all

failover_nameable : (node : NodeState) (master : Option ℕ) → HasNameable node → HasNameable (failover node master).state
failover_nameable node None all = all
failover_nameable node (Some master) all = all

cluster_nameable : (node : NodeState) (conn : Conn) (command : ClusterCommand) → AsksWithin (Ok (Cluster command)) → HasNameable node → HasNameable (cluster_outcome node conn command).state
cluster_nameable node conn (cluster.KeySlot key) asks all = all
cluster_nameable node conn cluster.MyId asks all = all
cluster_nameable node conn cluster.Slots asks all = all
cluster_nameable node conn (cluster.CountKeysInSlot slot) asks all = all
cluster_nameable node conn (cluster.GetKeysInSlot slot count) asks all = all
cluster_nameable node conn (cluster.SlotState slot) asks all = all
cluster_nameable node conn (cluster.SetSlot slot order id number) asks all = order_nameable node slot order (node_with_id node id) number asks all
cluster_nameable node conn cluster.Numbered asks all = all
cluster_nameable node conn cluster.Failover asks all = failover_nameable node (own_master node) all
cluster_nameable node conn (cluster.Asking number) asks all = all
cluster_nameable node conn (cluster.Migrate host port keys timeout) asks all =
    copied_nameable node conn (first_slot keys) (those_there node.keyspace keys) timeout (copy_verdict_on node keys (node_at node host port))
    (ordered_so node keys (node_at node host port) all) all

words_nameable : (node : NodeState) (conn : Conn) (connection : Option Connection) (command : Result Command CommandFault) → AsksWithin command → HasNameable node
    → HasNameable (by_command node conn connection command).state
words_nameable node conn connection (Err fault) asks all = all
words_nameable node conn connection (Ok (Cluster command)) asks all = cluster_nameable node conn command asks all
words_nameable node conn connection (Ok (Data command)) asks all = command_nameable node (is_numbered connection) command (decision_on node command (asking_of connection)) all

request_nameable : (node : NodeState) (conn : Conn) (words : List (List ℕ)) → HasNameable node → HasNameable (request_outcome node conn (command_of words)).state
request_nameable node conn words all = words_nameable (using_up node conn) conn (connection_at node.connections conn) (command_of words) (words_within words) all

-- ---- messages

unfrozen_same : (move : Move) → number_of (unfrozen move) ≡ number_of move
unfrozen_same (Leaves to number copied frozen) = refl
unfrozen_same (Comes from number last drained) = refl

one_more_same : (move : Move) → number_of (one_more move) ≡ number_of move
one_more_same (Leaves to number copied frozen) = refl
one_more_same (Comes from number last drained) = refl

noted_same : (from number epoch : ℕ) (move : Move) → number_of (note_drained from number epoch move) ≡ number_of move
noted_same from number epoch (Leaves to same copied frozen) = refl
noted_same from number epoch (Comes source same last drained) = either (λ (move : Move). number_of move ≡ same) (source == from && same == number) _ _ refl refl

arrival_nameable : (moves : Moves) (slot : ℕ) (verdict : ArrivalVerdict) → AllNameable moves.running → AllNameable (after_arrival moves slot verdict).running
arrival_nameable moves slot arrives.Installs all = changed_nameable moves slot one_more one_more_same all
arrival_nameable moves slot arrives.Repeats all = all
arrival_nameable moves slot arrives.Ignored all = all

acknowledged_nameable : (node : NodeState) (id : CopyId) (keys : Option (List (List ℕ))) → HasNameable node → HasNameable (acknowledged node id keys).state
acknowledged_nameable node id None all = all
acknowledged_nameable node id (Some keys) all = changed_nameable node.moves id.slot unfrozen unfrozen_same all

-- what comes of a vote, whether it elects the node or not
elected_keeps : (P : Outcome → Type 0) (node : NodeState) (won : Option Elected) → P (silent node)
    → ((master epoch : ℕ) (planned : Bool) (table : List (Option SlotEntry)) → P (promotion_to node master epoch planned table)) → P (if_elected node won)
elected_keeps P node None silent_one promoted = silent_one
elected_keeps P node (Some elected) silent_one promoted = by_plan node.candidate.planned
  where
    by_master : (master : Option ℕ) → P (promotion node elected.epoch master)
    by_master None = silent_one
    by_master (Some master) = promoted master elected.epoch false _

    handed : (master : Option ℕ) (told : Option Handing) → P (handed_promotion node elected.epoch master told)
    handed None told = silent_one
    handed (Some master) None = silent_one
    handed (Some master) (Some handing) = by_place (is_at_end node.stream (Some handing))
      where
        by_place : (b : Bool) → P (cond b (promotion_to node master elected.epoch true (table_handed node handing.slots elected.epoch)) (silent node))
        by_place true = promoted master elected.epoch true _
        by_place false = silent_one

    by_plan : (planned : Bool) → P (cond planned (handed_promotion node elected.epoch (own_master node) node.handover.note) (promotion node elected.epoch (own_master node)))
    by_plan true = handed (own_master node) node.handover.note
    by_plan false = by_master (own_master node)

taken_so_nameable : (node : NodeState) (from : ℕ) (choice : Choice) (body : Body) → HasNameable node → HasNameable (taken_so node from choice body).state
taken_so_nameable node from choice (Slots (Copy id pairs)) all =
    arrival_nameable node.moves id.slot (arrival_verdict (move_of node.moves id.slot) from id.number id.copy (keep_limits pairs)) all
taken_so_nameable node from choice (Slots (Ack id)) all = acknowledged_nameable node id (acknowledged_keys (move_of node.moves id.slot) from id.number id.copy) all
taken_so_nameable node from choice (Slots (Drained slot number epoch)) all = changed_nameable node.moves slot (note_drained from number epoch) (noted_same from number epoch) all
taken_so_nameable node from choice (Slots (Claim slots replaced)) all =
    either (λ (outcome : Outcome). HasNameable outcome.state) (from == node.number) (silent node) (claimed_by node (merged node.table slots from)) all
    (retained_nameable node.moves.running all _)
taken_so_nameable node from choice (Report suspects) all = all
taken_so_nameable node from choice (Election (Requested request)) all = all
taken_so_nameable node from choice (Election (Grant epoch)) all =
    elected_keeps (λ (outcome : Outcome). HasNameable outcome.state) _ (elected node.candidate (members_of node) from epoch) all (λ master won planned table. all)
taken_so_nameable node from choice (Stream (Sync sync)) all = synced_is (λ (outcome : Outcome). HasNameable outcome.state) node from sync all all
taken_so_nameable node from choice (Stream (Piece piece)) all = pieced_keeps HasNameable node (λ stream keyspace. all) from piece choice.follower
taken_so_nameable node from choice (Stream (Snapshot snapshot)) all = restored_keeps HasNameable node (λ stream keyspace. all) from snapshot
taken_so_nameable node from choice (Election (Pause stream)) all =
    either (λ (outcome : Outcome). HasNameable outcome.state) (may_pause node from stream) (handing_over node from) (silent node) all all
taken_so_nameable node from choice (Election (Paused handing)) all =
    either HasNameable (is_replica node && is_same handing.stream node.stream.held.id) (record node { handover = noting node.handover handing }) node all all

taken_nameable : (node : NodeState) (from : ℕ) (choice : Choice) (body : Body) → HasNameable node → HasNameable (taken node from choice body).state
taken_nameable node from choice body all =
    with_written_keeps HasNameable (taken_so node from choice body) (written_by_message node from body) choice.dropped (λ stream. taken_so_nameable node from choice body all)

delivered_nameable : (node : NodeState) (message : Message) (choice : Choice) → HasNameable node → HasNameable (delivered node message choice).state
delivered_nameable node message choice all =
    either (λ (outcome : Outcome). HasNameable outcome.state) (message.to == node.number) (taken (ready node message) message.from choice message.body) (silent node)
    (ready_keeps (λ (own : NodeState). HasNameable (taken own message.from choice message.body).state) node message
    (λ epoch masters health candidate handover as_before goes. taken_nameable (record node { current_epoch = epoch; masters = masters; health = health; candidate = candidate; handover = handover }) message.from choice message.body all)) all

-- ---- any event

answer_nameable : (old : NodeState) (conn : Conn) (words : List (List ℕ)) (asks : Bool) (outcome : Outcome) → MatchBool asks (IsAnswering old conn words outcome) (outcome ≡ silent old) → HasNameable old
    → HasNameable outcome.state
answer_nameable old conn words true outcome may all =
    subst (λ (o : Outcome). HasNameable o.state) (sym may.comes_to)
    (with_written_keeps HasNameable (request_outcome old conn (command_of words)) (written old conn words) may.dropped (λ stream. request_nameable old conn words all))
answer_nameable old conn words false outcome may all = subst (λ (o : Outcome). HasNameable o.state) (sym may) all

close_nameable : (old : NodeState) (conn : Conn) (is_open : Bool) (outcome : Outcome) → MatchBool is_open (IsClosing old conn outcome) (outcome ≡ silent old) → HasNameable old → HasNameable outcome.state
close_nameable old conn true outcome may all = subst (λ (o : Outcome). HasNameable o.state) (sym may.comes_to) all
close_nameable old conn false outcome may all = subst (λ (o : Outcome). HasNameable o.state) (sym may) all

event_nameable : (old : NodeState) (event : Event) (outcome : Outcome) → MayCome old event outcome → HasNameable old → HasNameable outcome.state
event_nameable old Open outcome may all = subst (λ (o : Outcome). HasNameable o.state) (sym may.comes_to) all
event_nameable old (Close conn) outcome may all = close_nameable old conn (is_some (connection_at old.connections conn)) outcome may all
event_nameable old (Request conn words) outcome may all = answer_nameable old conn words (may_ask (connection_at old.connections conn)) outcome may all
event_nameable old (Deliver message) outcome may all = subst (λ (o : Outcome). HasNameable o.state) (sym may.comes_to) (delivered_nameable old message may.choice all)
event_nameable old Tick outcome may all =
    let aged = a_tick_older (slots_tick old).state in
    subst (λ (o : Outcome). HasNameable o.state) (sym may.comes_to) (in_election_keeps HasNameable aged (due_epoch aged) (λ current candidate handover. all))

pub step_nameable : (ticket : ℕ) (old new : NodeState) (event : Event) (outputs : Outputs) → NodeStep ticket old event outputs new → HasNameable old → HasNameable new
step_nameable ticket old new event outputs step all = subst HasNameable (sym step.state) (event_nameable old event step.outcome step.may_come all)

-- no move is under way at the start
pub first_nameable : (config : ClusterConfig) (number : ℕ) → HasNameable (first_state config number)
first_nameable config number slot move at = absurd (no_some (map.get-empty nat_cmp slot) at)
