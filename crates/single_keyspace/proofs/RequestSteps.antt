-- Steps that answer requests.
use Rattle.std.proofs.Common.{◌≡◌, ℕ, List, [], ◌∷◌, Bool, true, false, Option, Some, None, Contains, refl, sym, ap, subst, ◌∙◌}
use Rattle.std.proofs.lemmas.Bool.{both_ways}
use Rattle.std.specs.Prelude.{Result, Ok, Err, is_some}
use Rattle.command_table.specs.Keys.{data_keys}
use Rattle.command_table.specs.Table.{command_of}
use Rattle.command_table.specs.declared.command.ClusterCommand.{ClusterCommand}
use Rattle.command_table.specs.declared.command.ClusterCommand.TheVariants as cluster
use Rattle.command_table.specs.declared.command.Command.{Command}
use Rattle.command_table.specs.declared.command.Command.TheVariants.{Data, Cluster}
use Rattle.command_table.specs.declared.command.DataCommand.{DataCommand}
use Rattle.command_table.specs.declared.command.SlotOrder.{SlotOrder}
use Rattle.command_table.specs.declared.command.SlotOrder.TheVariants.{Importing, Migrating, Node}
use Rattle.command_table.specs.declared.fault.CommandFault.{CommandFault}
use Rattle.key_slot.specs.Slot.{hash_slot}
use Rattle.keyspace.specs.Commands.{exec, execution_of}
use Rattle.keyspace.specs.Keyspace.{Keyspace}
use Rattle.keyspace.specs.Locality.{CommandsAreLocal}
use Rattle.slot_state.specs.Importing.{import_verdict}
use Rattle.slot_state.specs.Migrating.{migrate_verdict}
use Rattle.slot_state.specs.Moves.{move_of, last_move_of}
use Rattle.redirect.specs.declared.asked.Asking.{Asking}
use Rattle.redirect.specs.declared.decision.Decision.{Decision}
use Rattle.redirect.specs.declared.decision.Decision.TheVariants.{Serve, ServeImport, CrossSlot, Down, TryAgain, Ask, Moved}
use Rattle.one_slot.specs.Events.{IsAsked}
use Rattle.one_slot.specs.Sent.{IsSent}
use Rattle.one_slot.specs.Sent.Sent.{Told}
use Rattle.node_step.specs.Commands.{command_outcome, decision_on, drained_by_command, executed, served}
use Rattle.node_step.specs.Copies.{copy_verdict_on, node_at}
use Rattle.node_step.specs.Orders.{ending_verdict}
use Rattle.node_step.specs.Outcome.{Outcome, silent}
use Rattle.node_step.specs.Requests.{asking_of, by_command, cluster_outcome, is_numbered, node_with_id, order_outcome}
use Rattle.node_step.specs.Handovers.{failover}
use Rattle.node_step.specs.State.{NodeState, own_master, standing}
use Rattle.connections.specs.declared.conn.Conn.{Conn}
use Rattle.connections.specs.declared.conn.Connection.{Connection}
use Rattle.node_step.specs.declared.response.Why.TheVariants.{Decided}
use Rattle.world_run.specs.Executed.{Answered, MayAsk, Redirection, answered_with, if_served, redirection_in, redirections}
use Rattle.world_run.specs.Run.{Entry}
use Rattle.single_keyspace.specs.Slots.{view_of}
use Rattle.single_keyspace.specs.Stands.{BeginsIn, NodeStands, keys_in}
use Rattle.single_keyspace.proofs.OrderSteps.{import_stands, migration_stands, ending_stands, copy_stands}
use Rattle.single_keyspace.proofs.Seen.{no_some, same_some, SlotWas, HoldsAfter}
use Rattle.single_keyspace.proofs.Sendings.{AreJustified, drained_since_justified}
use Rattle.single_keyspace.proofs.Served.{CommandHolds, serve_holds, import_holds, asked_there}
use Rattle.single_keyspace.proofs.Steps.{StepStands, RepliesAs, next_of, nothing_sent, quiet_still}

module _ {past : List Entry} {n : ℕ} {before : NodeState} {one : Keyspace} (was : (slot : ℕ) → SlotWas past n before one slot) (stands : NodeStands n before)
    (local : CommandsAreLocal) (words : List (List ℕ)) where
  abbrev Answers : Outcome → Type 0
  Answers outcome = StepStands was (answered_with words outcome.response) outcome

  -- ---- commands on keys

  module _ (command : DataCommand) (reads : command_of words ≡ Ok (Data command)) (asking : Asking) where
    drained_justified : (keys : List (List ℕ)) → AreJustified past n (executed before command) (drained_by_command before (executed before command) keys)
    drained_justified [] = nothing_sent past n (executed before command)
    drained_justified (key ∷ others) = drained_since_justified past n (executed before command) (hash_slot key) before.keyspace

    executed_stands : (why : Decision) → CommandHolds was command
        → if_served (answered_with words (served before command why).response) ≡ Some (record { words = words; answer = record { why = Decided why; reply = (exec before.keyspace command).reply } })
        → redirection_in (answered_with words (served before command why).response) ≡ None → Answers (served before command why)
    executed_stands why holding is_served not_sent_on = record {
      node = record { number_is = stands.number_is; slots = stands.slots; is_master = stands.is_master; rests = stands.rests };
      holds = λ slot.
          subst (λ (o : Option Answered). HoldsAfter (was slot) (executed before command) (next_of one o)) (sym is_served)
          (subst (λ (r : Result Command CommandFault). HoldsAfter (was slot) (executed before command) (execution_of one r).after) (sym reads) (holding.holds slot));
      sent = drained_justified (data_keys command);
      told = λ redirection is. absurd (no_some not_sent_on is);
      replies = subst (RepliesAs one) (sym is_served) (holding.reply ∙ ap (λ (r : Result Command CommandFault). (execution_of one r).reply) (sym reads));
    }

    told_before : (number : ℕ) → Contains (redirections past) (record { words = words; to = n; number = number }) → (slot : ℕ) → BeginsIn slot (data_keys command)
        → (by : ℕ) × IsSent (was slot).top (was slot).seen (Told by n number (data_keys command))
    told_before number among slot begins =
        subst (λ (r : Result Command CommandFault). (by : ℕ) × IsSent (was slot).top (was slot).seen (Told by n number (keys_in r))) reads
        ((was slot).history.told (record { words = words; to = n; number = number }) among
        (subst (λ (r : Result Command CommandFault). BeginsIn slot (keys_in r)) (sym reads) begins))

    pub data_stands : (numbered : Bool) (why : Decision) → decision_on before command asking ≡ why → MayAsk past n (answered_with words (command_outcome before numbered command why).response)
        → Answers (command_outcome before numbered command why)
    data_stands numbered Serve is may = executed_stands Serve (serve_holds was command (local command) stands.number_is asking is) refl refl
    data_stands numbered (ServeImport number) is may =
        executed_stands (ServeImport number) (import_holds was command (local command) stands.number_is asking number is (told_before number may)) refl refl
    data_stands numbered CrossSlot is may = quiet_still was _ refl refl (command_outcome before numbered command CrossSlot) stands (λ slot. refl) (nothing_sent past n before)
    data_stands numbered Down is may = quiet_still was _ refl refl (command_outcome before numbered command Down) stands (λ slot. refl) (nothing_sent past n before)
    data_stands numbered (TryAgain reason) is may = quiet_still was _ refl refl (command_outcome before numbered command (TryAgain reason)) stands (λ slot. refl) (nothing_sent past n before)
    data_stands numbered (Moved slot to) is may = quiet_still was _ refl refl (command_outcome before numbered command (Moved slot to)) stands (λ slot. refl) (nothing_sent past n before)
    data_stands numbered (Ask other to number) is may =
        let still = quiet_still was None refl refl (silent before) stands (λ slot. refl) (nothing_sent past n before) in
        record {
          node = stands;
          holds = still.holds;
          sent = nothing_sent past n before;
          told = λ redirection told slot begins.
              let same : record { words = words; to = to; number = number } ≡ redirection = same_some refl told in
              subst (λ (r : Redirection). BeginsIn slot (keys_in (command_of r.words)) → IsAsked (view_of before slot) r.to r.number (keys_in (command_of r.words))) same
              (subst (λ (c : Result Command CommandFault). BeginsIn slot (keys_in c) → IsAsked (view_of before slot) to number (keys_in c)) (sym reads)
              (asked_there before command asking other to number is slot))
              begins;
          replies = tt;
        }

  -- ---- commands about the cluster

  order_stands : (slot : ℕ) (order : SlotOrder) (other number : Option ℕ) → Answers (order_outcome before slot order other number)
  order_stands slot Importing other number =
      import_stands was stands words slot other number (import_verdict (standing before slot) (move_of before.moves slot) (last_move_of before.moves slot) other number) refl
  order_stands slot Migrating other number =
      migration_stands was stands words slot other number (migrate_verdict (standing before slot) (move_of before.moves slot) (last_move_of before.moves slot) other number) refl
  order_stands slot Node other number = ending_stands was stands words slot other number (ending_verdict before slot other number) refl

  -- a master takes nobody's place
  failover_stands : (master : Option ℕ) → is_some master ≡ false → Answers (failover before master)
  failover_stands None is = quiet_still was _ refl refl (failover before None) stands (λ slot. refl) (nothing_sent past n before)
  failover_stands (Some master) is = absurd (both_ways true is refl)

  cluster_stands : (conn : Conn) (command : ClusterCommand) → Answers (cluster_outcome before conn command)
  cluster_stands conn (cluster.KeySlot key) = quiet_still was _ refl refl (cluster_outcome before conn (cluster.KeySlot key)) stands (λ slot. refl) (nothing_sent past n before)
  cluster_stands conn cluster.MyId = quiet_still was _ refl refl (cluster_outcome before conn cluster.MyId) stands (λ slot. refl) (nothing_sent past n before)
  cluster_stands conn cluster.Slots = quiet_still was _ refl refl (cluster_outcome before conn cluster.Slots) stands (λ slot. refl) (nothing_sent past n before)
  cluster_stands conn (cluster.CountKeysInSlot slot) = quiet_still was _ refl refl (cluster_outcome before conn (cluster.CountKeysInSlot slot)) stands (λ s. refl) (nothing_sent past n before)
  cluster_stands conn (cluster.GetKeysInSlot slot count) = quiet_still was _ refl refl (cluster_outcome before conn (cluster.GetKeysInSlot slot count)) stands (λ s. refl) (nothing_sent past n before)
  cluster_stands conn (cluster.SlotState slot) = quiet_still was _ refl refl (cluster_outcome before conn (cluster.SlotState slot)) stands (λ s. refl) (nothing_sent past n before)
  cluster_stands conn (cluster.SetSlot slot order id number) = order_stands slot order (node_with_id before id) number
  cluster_stands conn cluster.Numbered =
      quiet_still was _ refl refl (cluster_outcome before conn cluster.Numbered) (record { number_is = stands.number_is; slots = stands.slots; is_master = stands.is_master; rests = stands.rests }) (λ slot. refl)
      (nothing_sent past n (cluster_outcome before conn cluster.Numbered).state)
  cluster_stands conn cluster.Failover = failover_stands (own_master before) stands.is_master
  cluster_stands conn (cluster.Asking number) =
      quiet_still was _ refl refl (cluster_outcome before conn (cluster.Asking number)) (record { number_is = stands.number_is; slots = stands.slots; is_master = stands.is_master; rests = stands.rests }) (λ slot. refl)
      (nothing_sent past n (cluster_outcome before conn (cluster.Asking number)).state)
  cluster_stands conn (cluster.Migrate host port keys timeout) =
      copy_stands was stands words conn keys timeout (node_at before host port) (copy_verdict_on before keys (node_at before host port)) refl

  -- ---- any command

  pub command_stands : (conn : Conn) (connection : Option Connection) (command : Result Command CommandFault) → command_of words ≡ command
      → MayAsk past n (answered_with words (by_command before conn connection command).response) → Answers (by_command before conn connection command)
  command_stands conn connection (Err fault) reads may_ask = quiet_still was _ refl refl (by_command before conn connection (Err fault)) stands (λ slot. refl) (nothing_sent past n before)
  command_stands conn connection (Ok (Cluster command)) reads may_ask = cluster_stands conn command
  command_stands conn connection (Ok (Data command)) reads may_ask =
      data_stands command reads (asking_of connection) (is_numbered connection) (decision_on before command (asking_of connection)) refl may_ask
