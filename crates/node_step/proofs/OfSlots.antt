-- What a step does with commands and slots changes nothing else of the node but its wish for a handover, and sends nothing of votes and
-- streams.
use Rattle.std.proofs.Common.{◌≡◌, ◌≤◌, ◌==◌, ◌++◌, ℕ, List, [], ◌∷◌, Bool, true, false, cond, Option, Some, None, Contains, refl, subst, inl, inr, arith}
use Rattle.std.proofs.lemmas.List.Elements.{Contains-append_cases, Contains-push_cases}
use Rattle.std.specs.FinMap as fin_map
use Rattle.std.specs.List.{flat_map}
use Rattle.std.specs.Prelude.{Result, Ok, Err, ⊤}
use Rattle.bus.specs.declared.message.Body.{Body}
use Rattle.bus.specs.declared.bodies.ElectionBody.TheVariants.{Pause}
use Rattle.bus.specs.declared.bodies.SlotsBody.TheVariants.{Copy, Ack, Drained, Claim}
use Rattle.bus.specs.declared.message.Body.TheVariants.{Slots, Election}
use Rattle.command_table.specs.Keys.{data_keys}
use Rattle.command_table.specs.declared.command.ClusterCommand.{ClusterCommand}
use Rattle.command_table.specs.declared.command.ClusterCommand.TheVariants as cluster
use Rattle.command_table.specs.declared.command.Command.{Command}
use Rattle.command_table.specs.declared.command.Command.TheVariants.{Data, Cluster}
use Rattle.command_table.specs.declared.command.DataCommand.{DataCommand}
use Rattle.command_table.specs.declared.command.SlotOrder.{SlotOrder}
use Rattle.command_table.specs.declared.command.SlotOrder.TheVariants.{Importing, Migrating, Node}
use Rattle.command_table.specs.declared.fault.CommandFault.{CommandFault}
use Rattle.connections.specs.Connections.{ConnectionTable}
use Rattle.connections.specs.declared.conn.Conn.{Conn}
use Rattle.connections.specs.declared.conn.Connection.{Connection}
use Rattle.keyspace.specs.Keyspace.{Keyspace}
use Rattle.keyspace.specs.declared.value.Value.{Value}
use Rattle.migrate.specs.Acknowledging.{acknowledged_keys}
use Rattle.migrate.specs.Arriving.{arrival_verdict}
use Rattle.migrate.specs.declared.arriving.ArrivalVerdict.{ArrivalVerdict}
use Rattle.migrate.specs.declared.arriving.ArrivalVerdict.TheVariants.{Installs, Repeats, Ignored}
use Rattle.migrate.specs.declared.sending.CopyVerdict.{CopyVerdict}
use Rattle.migrate.specs.declared.sending.CopyVerdict.TheVariants as copies
use Rattle.redirect.specs.declared.decision.Decision.{Decision}
use Rattle.redirect.specs.declared.decision.Decision.TheVariants.{Serve, ServeImport, CrossSlot, Down, TryAgain, Ask, Moved}
use Rattle.slot_state.specs.Moves.{Moves, copy_id, move_of}
use Rattle.slot_state.specs.declared.ending.NodeVerdict.{NodeVerdict}
use Rattle.slot_state.specs.declared.ending.NodeVerdict.TheVariants as ending
use Rattle.slot_state.specs.declared.importing.ImportVerdict.{ImportVerdict}
use Rattle.slot_state.specs.declared.migrating.MigrateVerdict.{MigrateVerdict}
use Rattle.slot_state.specs.declared.migrating.MigrateVerdict.TheVariants as migrate
use Rattle.slot_state.specs.declared.running.Move.{Move}
use Rattle.slot_state.specs.declared.running.Move.TheVariants.{Leaves, Comes}
use Rattle.slot_state.specs.declared.copy_id.CopyId.{CopyId}
use Rattle.slot_table.specs.Claims.{merged}
use Rattle.slot_table.specs.declared.entry.SlotEntry.{SlotEntry}
use Rattle.slot_table.specs.declared.runs.Run.{Run}
use Rattle.node_step.specs.Claiming.{claim, claimed_by}
use Rattle.node_step.specs.Commands.{command_outcome, decision_on, drained_by_command, executed}
use Rattle.node_step.specs.Copies.{acknowledged, acknowledgement, arrival, arrived, copy_outcome, copy_verdict_on, first_slot, keep_limits, node_at, noted, outstanding, pairs_at, those_there, without_keys}
use Rattle.node_step.specs.Orders.{ending_outcome, ending_verdict, import_outcome, migrate_outcome, others, to_all}
use Rattle.node_step.specs.Outcome.{Outcome, silent}
use Rattle.node_step.specs.Requests.{asking_of, by_command, cluster_outcome, is_numbered, node_with_id, order_outcome}
use Rattle.node_step.specs.Slots.{drained, drained_by, drained_if_empty, drained_since, has_keys, slot_epoch}
use Rattle.node_step.specs.Handovers.{failover}
use Rattle.node_step.specs.State.{Handover, NodeState, own_master}
use Rattle.node_step.specs.Ticks.{sent_again}
use Rattle.node_step.proofs.Copied.{HasPairs, pairs_have}

-- ---- messages of slots

-- a copy has the values that its keys have at the node
abbrev pub IsOfSlots : NodeState → Body → Type 0
IsOfSlots own (Slots (Copy id pairs)) = HasPairs own.keyspace pairs
IsOfSlots own (Slots (Ack id)) = ⊤
IsOfSlots own (Slots (Drained slot number epoch)) = ⊤
IsOfSlots own (Slots (Claim slots replaced)) = ⊤
IsOfSlots own (Election (Pause stream)) = ⊤
IsOfSlots own other = ⊥

-- all of these messages are such that this holds
abbrev pub AreAll : (Body → Type 0) → List (ℕ × Body) → Type 0
AreAll P sent = (to : ℕ) (body : Body) → Contains sent (to, body) → P body

module _ (P : Body → Type 0) where
  pub all_of_none : AreAll P []
  all_of_none to body among = absurd (omega (arith, among.1))

  pub all_of_one : (to : ℕ) (body : Body) → P body → AreAll P ((to, body) ∷ [])
  all_of_one to body is other said among =
      elim (Contains-push_cases [] (to, body) (other, said) among) [
        | inl none ↦ absurd (omega (arith, none.1))
        | inr same ↦ subst (λ (p : ℕ × Body). P p.1) same is
      ]

  pub all_of_both : (sent others : List (ℕ × Body)) → AreAll P sent → AreAll P others → AreAll P (sent ++ others)
  all_of_both sent others first second to body among =
      elim (Contains-append_cases sent others (to, body) among) [
        | inl one ↦ first to body one
        | inr other ↦ second to body other
      ]

  pub all_to_all : (numbers : List ℕ) (body : Body) → P body → AreAll P (to_all numbers body)
  all_to_all [] body is = all_of_none
  all_to_all (number ∷ numbers) body is = all_of_both ((number, body) ∷ []) (to_all numbers body) (all_of_one number body is) (all_to_all numbers body is)

  pub all_flat_map : {X : Type 0} (f : X → List (ℕ × Body)) → ((x : X) → AreAll P (f x)) → (xs : List X) → AreAll P (flat_map f xs)
  all_flat_map f each [] = all_of_none
  all_flat_map f each (x ∷ xs) = all_of_both (f x) (flat_map f xs) (each x) (all_flat_map f each xs)

  pub all_of_if : (b : Bool) (sent others : List (ℕ × Body)) → AreAll P sent → AreAll P others → AreAll P (cond b sent others)
  all_of_if true sent others first second = first
  all_of_if false sent others first second = second

-- ---- what is sent of slots

module _ (own : NodeState) where
  drained_by_are : (slot epoch : ℕ) (move : Option Move) → AreAll (IsOfSlots own) (drained_by slot epoch move)
  drained_by_are slot epoch None = all_of_none (IsOfSlots own)
  drained_by_are slot epoch (Some (Comes from number last known)) = all_of_none (IsOfSlots own)
  drained_by_are slot epoch (Some (Leaves to number copies frozen)) = all_of_one (IsOfSlots own) to (Slots (Drained slot number epoch)) tt

  drained_if_empty_are : (node : NodeState) (slot : ℕ) → AreAll (IsOfSlots own) (drained_if_empty node slot)
  drained_if_empty_are node slot = all_of_if (IsOfSlots own) (has_keys node.keyspace slot) [] (drained node slot) (all_of_none (IsOfSlots own)) (drained_by_are slot (slot_epoch node slot) (move_of node.moves slot))

  drained_since_are : (before : Keyspace) (node : NodeState) (slot : ℕ) → AreAll (IsOfSlots own) (drained_since before node slot)
  drained_since_are before node slot = all_of_if (IsOfSlots own) (has_keys before slot) (drained_if_empty node slot) [] (drained_if_empty_are node slot) (all_of_none (IsOfSlots own))

  drained_by_command_are : (old new : NodeState) (keys : List (List ℕ)) → AreAll (IsOfSlots own) (drained_by_command old new keys)
  drained_by_command_are old new [] = all_of_none (IsOfSlots own)
  drained_by_command_are old new (key ∷ others) = drained_since_are old.keyspace new _

  outstanding_are : (slot : ℕ) (move : Option Move) → AreAll (IsOfSlots own) (outstanding own.keyspace slot move)
  outstanding_are slot None = all_of_none (IsOfSlots own)
  outstanding_are slot (Some (Comes from number last known)) = all_of_none (IsOfSlots own)
  outstanding_are slot (Some (Leaves to number copies None)) = all_of_none (IsOfSlots own)
  outstanding_are slot (Some (Leaves to number copies (Some keys))) = all_of_one (IsOfSlots own) to (Slots (Copy (copy_id slot number copies) (pairs_at own.keyspace keys))) (pairs_have own.keyspace keys)

move_sent_again : (node : NodeState) (move : ℕ × Move) → AreAll (IsOfSlots node) (sent_again node move)
move_sent_again node (slot, Comes from number last known) = all_of_none (IsOfSlots node)
move_sent_again node (slot, Leaves to number copies None) = drained_if_empty_are node node slot
move_sent_again node (slot, Leaves to number copies (Some keys)) = outstanding_are node slot (Some (Leaves to number copies (Some keys)))

-- what is sent again at a tick
pub sent_again_are : (node : NodeState) → AreAll (IsOfSlots node) (flat_map (sent_again node) (fin_map.entries node.moves.running))
sent_again_are node = all_flat_map (IsOfSlots node) (sent_again node) (move_sent_again node) (fin_map.entries node.moves.running)

-- ---- steps

-- this holds of the state, what is sent is of slots, and the node isn't promoted
pub record IsOfSlotsAlone (own : NodeState) (P : NodeState → Type 0) (outcome : Outcome) : Type 0 where
  pub state : P outcome.state
  pub sent : AreAll (IsOfSlots own) outcome.sent
  pub promoted : outcome.promoted ≡ None

module _ (P : NodeState → Type 0) (node : NodeState)
    (holds : (keyspace : Keyspace) (table : List (Option SlotEntry)) (moves : Moves) (current : ℕ) (handover : Handover) (connections : ConnectionTable)
    → node.current_epoch ≤ current → handover.note ≡ node.handover.note
    → P (record node { keyspace = keyspace; table = table; moves = moves; current_epoch = current; handover = handover; connections = connections })) where
  abbrev Does : Outcome → Type 0
  Does = IsOfSlotsAlone node P

  command_does : (numbered : Bool) (which : DataCommand) (why : Decision) → Does (command_outcome node numbered which why)
  command_does numbered which Serve = record { state = holds _ _ _ _ _ _ (omega arith) refl; sent = drained_by_command_are node node (executed node which) (data_keys which); promoted = refl }
  command_does numbered which (ServeImport number) = record { state = holds _ _ _ _ _ _ (omega arith) refl; sent = drained_by_command_are node node (executed node which) (data_keys which); promoted = refl }
  command_does numbered which CrossSlot = record { state = holds _ _ _ _ _ _ (omega arith) refl; sent = all_of_none (IsOfSlots node); promoted = refl }
  command_does numbered which Down = record { state = holds _ _ _ _ _ _ (omega arith) refl; sent = all_of_none (IsOfSlots node); promoted = refl }
  command_does numbered which (TryAgain reason) = record { state = holds _ _ _ _ _ _ (omega arith) refl; sent = all_of_none (IsOfSlots node); promoted = refl }
  command_does numbered which (Ask slot to number) = record { state = holds _ _ _ _ _ _ (omega arith) refl; sent = all_of_none (IsOfSlots node); promoted = refl }
  command_does numbered which (Moved slot to) = record { state = holds _ _ _ _ _ _ (omega arith) refl; sent = all_of_none (IsOfSlots node); promoted = refl }

  import_does : (slot : ℕ) (verdict : ImportVerdict) → Does (import_outcome node slot verdict)
  import_does slot verdict = record { state = holds _ _ _ _ _ _ (omega arith) refl; sent = all_of_none (IsOfSlots node); promoted = refl }

  migrate_does : (slot : ℕ) (verdict : MigrateVerdict) → Does (migrate_outcome node slot verdict)
  migrate_does slot migrate.UnknownNode = record { state = holds _ _ _ _ _ _ (omega arith) refl; sent = all_of_none (IsOfSlots node); promoted = refl }
  migrate_does slot migrate.Already = record { state = holds _ _ _ _ _ _ (omega arith) refl; sent = all_of_none (IsOfSlots node); promoted = refl }
  migrate_does slot migrate.Busy = record { state = holds _ _ _ _ _ _ (omega arith) refl; sent = all_of_none (IsOfSlots node); promoted = refl }
  migrate_does slot migrate.HandingOver = record { state = holds _ _ _ _ _ _ (omega arith) refl; sent = all_of_none (IsOfSlots node); promoted = refl }
  migrate_does slot migrate.NotOwner = record { state = holds _ _ _ _ _ _ (omega arith) refl; sent = all_of_none (IsOfSlots node); promoted = refl }
  migrate_does slot migrate.OldMove = record { state = holds _ _ _ _ _ _ (omega arith) refl; sent = all_of_none (IsOfSlots node); promoted = refl }
  migrate_does slot (migrate.Begins to number) = record { state = holds _ _ _ _ _ _ (omega arith) refl; sent = drained_if_empty_are node (migrate_outcome node slot (migrate.Begins to number)).state slot; promoted = refl }

  ending_does : (slot : ℕ) (verdict : NodeVerdict) → Does (ending_outcome node slot verdict)
  ending_does slot (ending.Ends drained) = record { state = holds _ _ _ _ _ _ (omega arith) refl; sent = all_to_all (IsOfSlots node) (others node) _ tt; promoted = refl }
  ending_does slot ending.UnknownNode = record { state = holds _ _ _ _ _ _ (omega arith) refl; sent = all_of_none (IsOfSlots node); promoted = refl }
  ending_does slot ending.OldMove = record { state = holds _ _ _ _ _ _ (omega arith) refl; sent = all_of_none (IsOfSlots node); promoted = refl }
  ending_does slot ending.NotDrained = record { state = holds _ _ _ _ _ _ (omega arith) refl; sent = all_of_none (IsOfSlots node); promoted = refl }
  ending_does slot ending.IsOwner = record { state = holds _ _ _ _ _ _ (omega arith) refl; sent = all_of_none (IsOfSlots node); promoted = refl }
  ending_does slot ending.NotYetOwner = record { state = holds _ _ _ _ _ _ (omega arith) refl; sent = all_of_none (IsOfSlots node); promoted = refl }

  order_does : (slot : ℕ) (order : SlotOrder) (other number : Option ℕ) → Does (order_outcome node slot order other number)
  order_does slot Importing other number = import_does slot _
  order_does slot Migrating other number = migrate_does slot _
  order_does slot Node other number = ending_does slot (ending_verdict node slot other number)

  copy_does : (conn : Conn) (slot : ℕ) (keys : List (List ℕ)) (ticks : ℕ) (verdict : CopyVerdict) → Does (copy_outcome node conn slot keys ticks verdict)
  copy_does conn slot keys ticks copies.CrossSlot = record { state = holds _ _ _ _ _ _ (omega arith) refl; sent = all_of_none (IsOfSlots node); promoted = refl }
  copy_does conn slot keys ticks copies.WrongTarget = record { state = holds _ _ _ _ _ _ (omega arith) refl; sent = all_of_none (IsOfSlots node); promoted = refl }
  copy_does conn slot keys ticks copies.NoKey = record { state = holds _ _ _ _ _ _ (omega arith) refl; sent = all_of_none (IsOfSlots node); promoted = refl }
  copy_does conn slot keys ticks copies.CopyOutstanding = record { state = holds _ _ _ _ _ _ (omega arith) refl; sent = all_of_none (IsOfSlots node); promoted = refl }
  copy_does conn slot keys ticks copies.Exhausted = record { state = holds _ _ _ _ _ _ (omega arith) refl; sent = all_of_none (IsOfSlots node); promoted = refl }
  copy_does conn slot keys ticks (copies.SendAgain to number copy) = record { state = holds _ _ _ _ _ _ (omega arith) refl; sent = outstanding_are node slot (move_of node.moves slot); promoted = refl }
  copy_does conn slot keys ticks (copies.Copies to number copy) = record { state = holds _ _ _ _ _ _ (omega arith) refl; sent = outstanding_are node slot _; promoted = refl }

  failover_does : (master : Option ℕ) → Does (failover node master)
  failover_does None = record { state = holds _ _ _ _ _ _ (omega arith) refl; sent = all_of_none (IsOfSlots node); promoted = refl }
  failover_does (Some master) = record { state = holds _ _ _ _ _ _ (omega arith) refl; sent = all_of_one (IsOfSlots node) master (Election (Pause node.stream.held.id)) tt; promoted = refl }

  cluster_does : (conn : Conn) (which : ClusterCommand) → Does (cluster_outcome node conn which)
  cluster_does conn (cluster.KeySlot key) = record { state = holds _ _ _ _ _ _ (omega arith) refl; sent = all_of_none (IsOfSlots node); promoted = refl }
  cluster_does conn cluster.MyId = record { state = holds _ _ _ _ _ _ (omega arith) refl; sent = all_of_none (IsOfSlots node); promoted = refl }
  cluster_does conn cluster.Slots = record { state = holds _ _ _ _ _ _ (omega arith) refl; sent = all_of_none (IsOfSlots node); promoted = refl }
  cluster_does conn (cluster.CountKeysInSlot slot) = record { state = holds _ _ _ _ _ _ (omega arith) refl; sent = all_of_none (IsOfSlots node); promoted = refl }
  cluster_does conn (cluster.GetKeysInSlot slot count) = record { state = holds _ _ _ _ _ _ (omega arith) refl; sent = all_of_none (IsOfSlots node); promoted = refl }
  cluster_does conn (cluster.SlotState slot) = record { state = holds _ _ _ _ _ _ (omega arith) refl; sent = all_of_none (IsOfSlots node); promoted = refl }
  cluster_does conn (cluster.SetSlot slot order id number) = order_does slot order (node_with_id node id) number
  cluster_does conn cluster.Numbered = record { state = holds _ _ _ _ _ _ (omega arith) refl; sent = all_of_none (IsOfSlots node); promoted = refl }
  cluster_does conn cluster.Failover = failover_does (own_master node)
  cluster_does conn (cluster.Asking number) = record { state = holds _ _ _ _ _ _ (omega arith) refl; sent = all_of_none (IsOfSlots node); promoted = refl }
  cluster_does conn (cluster.Migrate host port keys timeout) = copy_does conn (first_slot keys) (those_there node.keyspace keys) timeout (copy_verdict_on node keys (node_at node host port))

  -- a request, whatever its words are
  pub request_is_of_slots : (conn : Conn) (connection : Option Connection) (command : Result Command CommandFault) → Does (by_command node conn connection command)
  request_is_of_slots conn connection (Err fault) = record { state = holds _ _ _ _ _ _ (omega arith) refl; sent = all_of_none (IsOfSlots node); promoted = refl }
  request_is_of_slots conn connection (Ok (Cluster which)) = cluster_does conn which
  request_is_of_slots conn connection (Ok (Data which)) = command_does (is_numbered connection) which (decision_on node which (asking_of connection))

  -- and the messages that slots are moved by
  arrived_does : (from : ℕ) (id : CopyId) (pairs : List (List ℕ × Value)) (verdict : ArrivalVerdict) → Does (arrived node from id pairs verdict)
  arrived_does from id pairs Installs = record { state = holds _ _ _ _ _ _ (omega arith) refl; sent = all_of_one (IsOfSlots node) from (Slots (Ack id)) tt; promoted = refl }
  arrived_does from id pairs Repeats = record { state = holds _ _ _ _ _ _ (omega arith) refl; sent = all_of_one (IsOfSlots node) from (Slots (Ack id)) tt; promoted = refl }
  arrived_does from id pairs Ignored = record { state = holds _ _ _ _ _ _ (omega arith) refl; sent = all_of_none (IsOfSlots node); promoted = refl }

  pub arrival_is_of_slots : (from : ℕ) (id : CopyId) (pairs : List (List ℕ × Value)) → Does (arrival node from id pairs)
  arrival_is_of_slots from id pairs = arrived_does from id pairs (arrival_verdict (move_of node.moves id.slot) from id.number id.copy (keep_limits pairs))

  acknowledged_does : (id : CopyId) (keys : Option (List (List ℕ))) → Does (acknowledged node id keys)
  acknowledged_does id None = record { state = holds _ _ _ _ _ _ (omega arith) refl; sent = all_of_none (IsOfSlots node); promoted = refl }
  acknowledged_does id (Some keys) = record { state = holds _ _ _ _ _ _ (omega arith) refl; sent = drained_since_are node node.keyspace (without_keys node id keys) id.slot; promoted = refl }

  pub acknowledgement_is_of_slots : (from : ℕ) (id : CopyId) → Does (acknowledgement node from id)
  acknowledgement_is_of_slots from id = acknowledged_does id (acknowledged_keys (move_of node.moves id.slot) from id.number id.copy)

  pub noted_is_of_slots : (from slot number epoch : ℕ) → Does (noted node from slot number epoch)
  noted_is_of_slots from slot number epoch = record { state = holds _ _ _ _ _ _ (omega arith) refl; sent = all_of_none (IsOfSlots node); promoted = refl }

  pub claim_is_of_slots : (from : ℕ) (runs : List (Run ℕ)) → Does (claim node from runs)
  claim_is_of_slots from runs = by_sender (from == node.number)
    where
      by_sender : (own : Bool) → Does (cond own (silent node) (claimed_by node (merged node.table runs from)))
      by_sender true = record { state = holds _ _ _ _ _ _ (omega arith) refl; sent = all_of_none (IsOfSlots node); promoted = refl }
      by_sender false = record { state = holds _ _ _ _ _ _ (omega arith) refl; sent = all_of_none (IsOfSlots node); promoted = refl }
