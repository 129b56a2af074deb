-- A replica has no slot, so it writes nothing.
use Rattle.std.proofs.Common.{◌≡◌, ◌≢◌, ◌==◌, ◌&&◌, ℕ, Bool, true, false, cond, not, List, [], ◌∷◌, map, Option, Some, None, length, refl, sym, ap, subst, ◌∙◌, inl, inr, arith}
use Rattle.std.proofs.lemmas.Bool.{cases_Bool, cond-true, cond-false, eqb-false, ne_eqb}
use Rattle.std.proofs.lemmas.Bool.Decides.{nat_tests}
use Rattle.std.specs.FinMap as fin_map
use Rattle.std.specs.FinMap.{nat_cmp-IsAntisymmetric}
use Rattle.std.specs.Prelude.{Result, Ok, Err, filter}
use Rattle.command_table.specs.Keys.{data_keys, is_data_write}
use Rattle.command_table.specs.Table.{command_of}
use Rattle.command_table.specs.declared.command.ClusterCommand.{ClusterCommand}
use Rattle.command_table.specs.declared.command.ClusterCommand.TheVariants as cluster
use Rattle.command_table.specs.declared.command.Command.{Command}
use Rattle.command_table.specs.declared.command.Command.TheVariants.{Data, Cluster}
use Rattle.command_table.specs.declared.command.DataCommand.{DataCommand}
use Rattle.command_table.specs.declared.command.SlotOrder.{SlotOrder}
use Rattle.command_table.specs.declared.command.SlotOrder.TheVariants.{Importing, Migrating, Node}
use Rattle.command_table.specs.declared.fault.CommandFault.{CommandFault}
use Rattle.connections.specs.declared.conn.Conn.{Conn}
use Rattle.connections.specs.declared.conn.Connection.{Connection}
use Rattle.key_slot.specs.Slot.{hash_slot}
use Rattle.migrate.specs.Acknowledging.{acknowledged_keys}
use Rattle.migrate.specs.Arriving.{arrival_verdict, changed_at}
use Rattle.migrate.specs.Draining.{note_drained}
use Rattle.migrate.specs.Losing.{is_leaving}
use Rattle.migrate.specs.declared.arriving.ArrivalVerdict.{ArrivalVerdict}
use Rattle.migrate.specs.declared.arriving.ArrivalVerdict.TheVariants.{Installs, Repeats, Ignored}
use Rattle.migrate.specs.declared.sending.CopyVerdict.{CopyVerdict}
use Rattle.migrate.specs.declared.sending.CopyVerdict.TheVariants as copies
use Rattle.redirect.specs.Decision.{by_keys, decision_at, has_other_slot}
use Rattle.redirect.specs.declared.asked.Asking.{Asking}
use Rattle.redirect.specs.declared.decision.Decision.{Decision}
use Rattle.redirect.specs.declared.decision.Decision.TheVariants.{Serve, ServeImport, CrossSlot, Down, TryAgain, Ask, Moved}
use Rattle.slot_state.specs.Importing.{import_verdict}
use Rattle.slot_state.specs.Migrating.{migrate_verdict}
use Rattle.slot_state.specs.Moves.{Moves, last_move_of, move_of}
use Rattle.slot_state.specs.declared.ending.NodeVerdict.{NodeVerdict}
use Rattle.slot_state.specs.declared.ending.NodeVerdict.TheVariants as ending
use Rattle.slot_state.specs.declared.importing.ImportVerdict.{ImportVerdict}
use Rattle.slot_state.specs.declared.importing.ImportVerdict.TheVariants as import
use Rattle.slot_state.specs.declared.migrating.MigrateVerdict.{MigrateVerdict}
use Rattle.slot_state.specs.declared.migrating.MigrateVerdict.TheVariants as migrate
use Rattle.slot_state.specs.declared.order.Standing.{Standing}
use Rattle.slot_state.specs.declared.running.Move.{Move}
use Rattle.slot_state.specs.declared.copy_id.CopyId.{CopyId}
use Rattle.slot_table.specs.Claims.{merged}
use Rattle.slot_table.specs.Table.{owner_at, owner_in}
use Rattle.slot_table.specs.declared.entry.SlotEntry.{SlotEntry}
use Rattle.slot_table.specs.declared.runs.Run.{Run}
use Rattle.node_step.proofs.Copied.{copied_next, sent_again_of}
use Rattle.node_step.proofs.Merging.{claimed_owner, length_merged, merged_cases}
use Rattle.node_step.proofs.Verdicts.{ack_counts, copy_arrives, copy_repeats, import_ends, serves, serves_import}
use Rattle.node_step.specs.Claiming.{claim, claimed_by, is_lost, is_owner}
use Rattle.node_step.specs.Commands.{asked_of, command_outcome, decision_on}
use Rattle.node_step.specs.Copies.{acknowledged, acknowledgement, arrival, arrived, copy_outcome, copy_verdict_on, first_slot, keep_limits, node_at, noted, those_there}
use Rattle.node_step.specs.Orders.{ending_outcome, ending_verdict, import_outcome, migrate_outcome}
use Rattle.node_step.specs.Outcome.{Outcome, silent}
use Rattle.node_step.specs.Requests.{asking_of, by_command, cluster_outcome, is_numbered, node_with_id, order_outcome}
use Rattle.node_step.specs.Handovers.{failover}
use Rattle.node_step.specs.State.{NodeState, is_replica, own_master, standing}
use Rattle.node_step.specs.Streams.{Requests, deletion, written_by_ack, written_by_claim, written_by_copy, written_by_loss, written_by_request}
use Rattle.world_run.proofs.Nodes.{no_some, same_some}
use Rattle.keyspace.specs.declared.value.Value.{Value}
use Rattle.promoted_prefix.proofs.Keyed.{IsKeyed, words_keyed}
use Rattle.promoted_prefix.proofs.Writes.{written_if}

-- no slot is the node's own, and none is moved by it
pub record IsSlotless (n : ℕ) (node : NodeState) : Type 0 where
  pub number : node.number ≡ n
  pub role : is_replica node ≡ true
  pub slots : length node.table ≡ 16384
  pub foreign : (slot : ℕ) → owner_at node.table slot ≢ Some n
  pub idle : (slot : ℕ) → move_of node.moves slot ≡ None

-- it is so still, and nothing is written
pub record Stays (n : ℕ) (requests : Requests) (outcome : Outcome) : Type 0 where
  pub node : IsSlotless n outcome.state
  pub nothing : requests ≡ []

no_import : (at : Standing) (move : Option Move) (last : ℕ) (other asked : Option ℕ) (from number : ℕ) → at.is_replica ≡ true → import_verdict at move last other asked ≡ import.Begins from number → ⊥
no_import at move last other asked from number replica is = grind (arith, nat_tests)

no_migration : (at : Standing) (move : Option Move) (last : ℕ) (other asked : Option ℕ) (to number : ℕ) → at.is_replica ≡ true → migrate_verdict at move last other asked ≡ migrate.Begins to number → ⊥
no_migration at move last other asked to number replica is = grind (arith, nat_tests)

module _ (n : ℕ) (node : NodeState) (stands : IsSlotless n node) where
  pub same_node : (after : NodeState) → after.number ≡ node.number → after.table ≡ node.table → after.moves ≡ node.moves → is_replica after ≡ is_replica node → IsSlotless n after
  same_node after number table moves role = record {
    number = number ∙ stands.number;
    role = role ∙ stands.role;
    slots = ap (λ (t : List (Option SlotEntry)). length t) table ∙ stands.slots;
    foreign = λ slot is. stands.foreign slot (sym (ap (λ t. owner_at t slot) table) ∙ is);
    idle = λ slot. ap (λ (m : Moves). move_of m slot) moves ∙ stands.idle slot;
  }

  plain : (requests : Requests) (outcome : Outcome) → outcome.state.number ≡ node.number → outcome.state.table ≡ node.table → outcome.state.moves ≡ node.moves → is_replica outcome.state ≡ is_replica node → requests ≡ [] → Stays n requests outcome
  plain requests outcome number table moves role nothing = record { node = same_node outcome.state number table moves role; nothing = nothing }

  module _ (words : List (List ℕ)) (command : Result Command CommandFault) where
    abbrev Answers : Outcome → Type 0
    Answers outcome = Stays n (written_by_request words command outcome.response) outcome

    import_stays : (slot : ℕ) (other asked : Option ℕ) (verdict : ImportVerdict) → import_verdict (standing node slot) (move_of node.moves slot) (last_move_of node.moves slot) other asked ≡ verdict → Answers (import_outcome node slot verdict)
    import_stays slot other asked import.UnknownNode is = plain _ _ refl refl refl refl refl
    import_stays slot other asked import.Already is = plain _ _ refl refl refl refl refl
    import_stays slot other asked import.Busy is = plain _ _ refl refl refl refl refl
    import_stays slot other asked import.AlreadyOwner is = plain _ _ refl refl refl refl refl
    import_stays slot other asked import.HandingOver is = plain _ _ refl refl refl refl refl
    import_stays slot other asked import.NotOwner is = plain _ _ refl refl refl refl refl
    import_stays slot other asked import.OldMove is = plain _ _ refl refl refl refl refl
    import_stays slot other asked (import.Begins from number) is = absurd (no_import (standing node slot) (move_of node.moves slot) (last_move_of node.moves slot) other asked from number stands.role is)

    migration_stays : (slot : ℕ) (other asked : Option ℕ) (verdict : MigrateVerdict) → migrate_verdict (standing node slot) (move_of node.moves slot) (last_move_of node.moves slot) other asked ≡ verdict → Answers (migrate_outcome node slot verdict)
    migration_stays slot other asked migrate.UnknownNode is = plain _ _ refl refl refl refl refl
    migration_stays slot other asked migrate.Already is = plain _ _ refl refl refl refl refl
    migration_stays slot other asked migrate.Busy is = plain _ _ refl refl refl refl refl
    migration_stays slot other asked migrate.HandingOver is = plain _ _ refl refl refl refl refl
    migration_stays slot other asked migrate.NotOwner is = plain _ _ refl refl refl refl refl
    migration_stays slot other asked migrate.OldMove is = plain _ _ refl refl refl refl refl
    migration_stays slot other asked (migrate.Begins to number) is = absurd (no_migration (standing node slot) (move_of node.moves slot) (last_move_of node.moves slot) other asked to number stands.role is)

    ending_stays : (slot : ℕ) (other asked : Option ℕ) (verdict : NodeVerdict) → ending_verdict node slot other asked ≡ verdict → Answers (ending_outcome node slot verdict)
    ending_stays slot other asked ending.UnknownNode is = plain _ _ refl refl refl refl refl
    ending_stays slot other asked ending.OldMove is = plain _ _ refl refl refl refl refl
    ending_stays slot other asked ending.NotDrained is = plain _ _ refl refl refl refl refl
    ending_stays slot other asked ending.IsOwner is = plain _ _ refl refl refl refl refl
    ending_stays slot other asked ending.NotYetOwner is = plain _ _ refl refl refl refl refl
    ending_stays slot other asked (ending.Ends drained) is =
        let facts = import_ends (standing node slot) (move_of node.moves slot) other asked drained is in absurd (no_some (stands.idle slot) facts.3)

    copy_stays : (conn : Conn) (named : List (List ℕ)) (ticks : ℕ) (target : Option ℕ) (verdict : CopyVerdict) → copy_verdict_on node named target ≡ verdict
        → Answers (copy_outcome node conn (first_slot named) (those_there node.keyspace named) ticks verdict)
    copy_stays conn named ticks target copies.CrossSlot is = plain _ _ refl refl refl refl refl
    copy_stays conn named ticks target copies.WrongTarget is = plain _ _ refl refl refl refl refl
    copy_stays conn named ticks target copies.NoKey is = plain _ _ refl refl refl refl refl
    copy_stays conn named ticks target copies.CopyOutstanding is = plain _ _ refl refl refl refl refl
    copy_stays conn named ticks target copies.Exhausted is = plain _ _ refl refl refl refl refl
    copy_stays conn named ticks target (copies.SendAgain to number copy) is = absurd (no_some (stands.idle _) (sent_again_of node named target to number copy is).1)
    copy_stays conn named ticks target (copies.Copies to number copy) is = absurd (no_some (stands.idle _) (copied_next node named target to number copy is).move)

    order_stays : (slot : ℕ) (order : SlotOrder) (other number : Option ℕ) → Answers (order_outcome node slot order other number)
    order_stays slot Importing other number = import_stays slot other number _ refl
    order_stays slot Migrating other number = migration_stays slot other number _ refl
    order_stays slot Node other number = ending_stays slot other number _ refl

    failover_stays : (master : Option ℕ) → Answers (failover node master)
    failover_stays None = plain _ _ refl refl refl refl refl
    failover_stays (Some master) = plain _ _ refl refl refl refl refl

    cluster_stays : (conn : Conn) (which : ClusterCommand) → Answers (cluster_outcome node conn which)
    cluster_stays conn (cluster.KeySlot key) = plain _ _ refl refl refl refl refl
    cluster_stays conn cluster.MyId = plain _ _ refl refl refl refl refl
    cluster_stays conn cluster.Slots = plain _ _ refl refl refl refl refl
    cluster_stays conn (cluster.CountKeysInSlot slot) = plain _ _ refl refl refl refl refl
    cluster_stays conn (cluster.GetKeysInSlot slot count) = plain _ _ refl refl refl refl refl
    cluster_stays conn (cluster.SlotState slot) = plain _ _ refl refl refl refl refl
    cluster_stays conn (cluster.SetSlot slot order id number) = order_stays slot order (node_with_id node id) number
    cluster_stays conn cluster.Numbered = plain _ _ refl refl refl refl refl
    cluster_stays conn cluster.Failover = failover_stays (own_master node)
    cluster_stays conn (cluster.Asking number) = plain _ _ refl refl refl refl refl
    cluster_stays conn (cluster.Migrate host port keys timeout) = copy_stays conn keys timeout (node_at node host port) _ refl

  -- ---- commands on keys

  -- a command that was decided in a slot is served there by none
  served_nowhere : (words : List (List ℕ)) (which : DataCommand) (asking : Asking) (why : Decision) → (why ≡ CrossSlot → ⊥) → ((slot : ℕ) → decision_at node.table node.moves node.number slot (asked_of node which asking) ≡ why → ⊥)
      → decision_on node which asking ≡ why → data_keys which ≡ []
  served_nowhere words which asking why not_cross not_there is = by_its_keys (data_keys which) refl is
    where
      by_its_keys : (keys : List (List ℕ)) → data_keys which ≡ keys → by_keys node.table node.moves node.number keys (asked_of node which asking) ≡ why → data_keys which ≡ []
      by_its_keys [] same is = same
      by_its_keys (key ∷ others) same is =
          let in_one : Decision = decision_at node.table node.moves node.number (hash_slot key) (asked_of node which asking) in
          elim (cases_Bool (has_other_slot (hash_slot key) others)) [
            | inl two ↦ absurd (not_cross (sym is ∙ cond-true (has_other_slot (hash_slot key) others) CrossSlot in_one two))
            | inr one ↦ absurd (not_there (hash_slot key) (sym (cond-false (has_other_slot (hash_slot key) others) CrossSlot in_one one) ∙ is))
          ]

  module _ (words : List (List ℕ)) (which : DataCommand) (reads : command_of words ≡ Ok (Data which)) (asking : Asking) where
    unwritten : (fails : Bool) → data_keys which ≡ [] → written_if (is_data_write which) fails words ≡ []
    unwritten fails none = ap (λ b. written_if b fails words) (subst IsKeyed reads (words_keyed words) none)

    serve_stays : (numbered : Bool) (why : Decision) → decision_on node which asking ≡ why → Stays n (written_by_request words (Ok (Data which)) (command_outcome node numbered which why).response) (command_outcome node numbered which why)
    serve_stays numbered Serve is =
        plain _ _ refl refl refl refl (unwritten _
        (served_nowhere words which asking Serve (λ same. grind arith) (λ slot served.
        elim (serves slot (owner_at node.table slot) (move_of node.moves slot) node.number (asked_of node which asking) served) [
          | inl own ↦ stands.foreign slot (own.1 ∙ ap Some stands.number)
          | inr leaving ↦ no_some (stands.idle slot) leaving.4
        ]) is))
    serve_stays numbered (ServeImport number) is =
        plain _ _ refl refl refl refl (unwritten _
        (served_nowhere words which asking (ServeImport number) (λ same. grind arith) (λ slot served.
        let facts = serves_import slot (owner_at node.table slot) (move_of node.moves slot) node.number (asked_of node which asking) number served in
        no_some (stands.idle slot) facts.3) is))
    serve_stays numbered CrossSlot is = plain _ _ refl refl refl refl refl
    serve_stays numbered Down is = plain _ _ refl refl refl refl refl
    serve_stays numbered (TryAgain reason) is = plain _ _ refl refl refl refl refl
    serve_stays numbered (Ask slot to number) is = plain _ _ refl refl refl refl refl
    serve_stays numbered (Moved slot to) is = plain _ _ refl refl refl refl refl

  pub request_stays : (words : List (List ℕ)) (conn : Conn) (connection : Option Connection) (command : Result Command CommandFault) → command_of words ≡ command
      → Stays n (written_by_request words command (by_command node conn connection command).response) (by_command node conn connection command)
  request_stays words conn connection (Err fault) reads = plain _ _ refl refl refl refl refl
  request_stays words conn connection (Ok (Cluster which)) reads = cluster_stays words (Ok (Cluster which)) conn which
  request_stays words conn connection (Ok (Data which)) reads = serve_stays words which reads (asking_of connection) (is_numbered connection) (decision_on node which (asking_of connection)) refl

  -- ---- messages

  arrived_stays : (from : ℕ) (id : CopyId) (pairs : List (List ℕ × Value)) (verdict : ArrivalVerdict) → arrival_verdict (move_of node.moves id.slot) from id.number id.copy (keep_limits pairs) ≡ verdict
      → Stays n (written_by_copy node.keyspace pairs verdict) (arrived node from id pairs verdict)
  arrived_stays from id pairs Ignored is = plain _ _ refl refl refl refl refl
  arrived_stays from id pairs Repeats is =
      let facts = copy_repeats (move_of node.moves id.slot) from id.number id.copy (keep_limits pairs) is in absurd (no_some (stands.idle id.slot) facts.2)
  arrived_stays from id pairs Installs is =
      let facts = copy_arrives (move_of node.moves id.slot) from id.number id.copy (keep_limits pairs) is in absurd (no_some (stands.idle id.slot) facts.2)

  pub arrival_stays : (from : ℕ) (id : CopyId) (pairs : List (List ℕ × Value))
      → Stays n (written_by_copy node.keyspace pairs (arrival_verdict (move_of node.moves id.slot) from id.number id.copy (keep_limits pairs))) (arrival node from id pairs)
  arrival_stays from id pairs = arrived_stays from id pairs (arrival_verdict (move_of node.moves id.slot) from id.number id.copy (keep_limits pairs)) refl

  acknowledged_stays : (from : ℕ) (id : CopyId) (keys : Option (List (List ℕ))) → acknowledged_keys (move_of node.moves id.slot) from id.number id.copy ≡ keys → Stays n (written_by_ack keys) (acknowledged node id keys)
  acknowledged_stays from id None is = plain _ _ refl refl refl refl refl
  acknowledged_stays from id (Some keys) is = absurd (no_some (stands.idle id.slot) (ack_counts (move_of node.moves id.slot) from id.number id.copy keys is))

  pub acknowledgement_stays : (from : ℕ) (id : CopyId) → Stays n (written_by_ack (acknowledged_keys (move_of node.moves id.slot) from id.number id.copy)) (acknowledgement node from id)
  acknowledgement_stays from id = acknowledged_stays from id (acknowledged_keys (move_of node.moves id.slot) from id.number id.copy) refl

  pub noted_stays : (from slot number epoch : ℕ) → IsSlotless n (noted node from slot number epoch).state
  noted_stays from slot number epoch =
      subst (λ (move : Option Move). IsSlotless n (record node { moves = changed_at node.moves slot (note_drained from number epoch) move })) (sym (stands.idle slot)) (same_node node refl refl refl refl)

  no_owner : (owner : Option ℕ) (number : ℕ) → owner ≢ Some number → is_owner owner number ≡ false
  no_owner None number other = refl
  no_owner (Some owner) number other = ne_eqb owner number (λ same. other (ap Some same))

  none_lost : (table : List (Option SlotEntry)) (slot : ℕ) → is_lost node table slot ≡ false
  none_lost table slot =
      ap (λ b. b && not (is_owner (owner_at table slot) node.number))
      (no_owner (owner_at node.table slot) node.number (λ is. stands.foreign slot (is ∙ ap Some stands.number)))

  lose_nothing : (table : List (Option SlotEntry)) (keys : List (List ℕ)) → map deletion (filter (λ key. is_lost node table (hash_slot key)) keys) ≡ []
  lose_nothing table [] = refl
  lose_nothing table (key ∷ keys) =
      ap (λ b. map deletion (cond b (key ∷ filter (λ key. is_lost node table (hash_slot key)) keys) (filter (λ key. is_lost node table (hash_slot key)) keys))) (none_lost table (hash_slot key)) ∙ lose_nothing table keys

  no_move : (b : Bool) (move : Option Move) → move ≡ None → cond b move None ≡ None
  no_move true move is = is
  no_move false move is = refl

  pub claim_stays : (from : ℕ) (runs : List (Run ℕ)) → Stays n (written_by_claim node from runs) (claim node from runs)
  claim_stays from runs = by_sender (from == node.number) refl
    where
      by_sender : (own : Bool) → (from == node.number) ≡ own → Stays n (cond own [] (written_by_loss node (merged node.table runs from))) (cond own (silent node) (claimed_by node (merged node.table runs from)))
      by_sender true own = plain _ _ refl refl refl refl refl
      by_sender false other =
          let apart : from ≢ n = λ same. eqb-false from node.number other (same ∙ sym stands.number) in
          record {
            node = record {
              number = stands.number;
              role = stands.role;
              slots = length_merged node.table runs from;
              foreign = λ slot named.
                  elim (merged_cases node.table runs from slot stands.slots) [
                    | inl stays ↦ stands.foreign slot (ap owner_in (sym stays) ∙ named)
                    | inr taken_now ↦ apart (sym (claimed_owner runs from slot taken_now.0 taken_now.1) ∙ same_some (ap owner_in taken_now.3) named)
                  ];
              idle = λ slot.
                  fin_map.get-retain_keys node.moves.running (λ s. not (is_lost node (merged node.table runs from) s && is_leaving (move_of node.moves s))) slot
                  (λ x same. ap (λ s. not (is_lost node (merged node.table runs from) s && is_leaving (move_of node.moves s))) (sym (nat_cmp-IsAntisymmetric slot x same)))
                  ∙ no_move _ (move_of node.moves slot) (stands.idle slot);
            };
            nothing = lose_nothing (merged node.table runs from) (fin_map.keys node.keyspace);
          }
