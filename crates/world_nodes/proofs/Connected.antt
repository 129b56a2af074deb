-- What a step of a node leaves of its connections.
use Rattle.std.proofs.Common.{◌≡◌, ◌≢◌, ◌⊎◌, ◌==◌, ◌&&◌, ◌<◌, ◌≤◌, ℕ, zero, suc, List, [], ◌∷◌, Bool, true, false, not, cond, Option, Some, None, is_some, get_or, set, refl, sym, ap, subst, ◌∙◌, inl, inr, eq-eqb, ne_eqb, arith}
use Rattle.std.proofs.Math.ListN.{get_or-map}
use Rattle.std.proofs.lemmas.Bool.{cases_eq, cond-true, cond-false}
use Rattle.std.proofs.lemmas.List.{get_or-set_other}
use Rattle.std.specs.Prelude.{MatchBool, Result, Ok, Err, ⊤}
use Rattle.bus.specs.Stream.{StreamView, is_same}
use Rattle.bus.specs.declared.message.Body.{Body}
use Rattle.bus.specs.declared.bodies.ElectionBody.TheVariants.{Candidacy as Requested, Grant, Pause, Paused}
use Rattle.bus.specs.declared.bodies.SlotsBody.TheVariants.{Copy, Ack, Drained, Claim}
use Rattle.bus.specs.declared.bodies.StreamBody.TheVariants.{Sync, Piece, Snapshot}
use Rattle.bus.specs.declared.message.Body.TheVariants.{Slots, Stream, Election, Report}
use Rattle.bus.specs.declared.message.Message.{Message}
use Rattle.bus.specs.declared.bodies.Handing.{Handing}
use Rattle.command_table.specs.Keys.{data_keys}
use Rattle.command_table.specs.Table.{command_of}
use Rattle.command_table.specs.declared.command.ClusterCommand.{ClusterCommand}
use Rattle.command_table.specs.declared.command.ClusterCommand.TheVariants as cluster
use Rattle.command_table.specs.declared.command.Command.{Command}
use Rattle.command_table.specs.declared.command.Command.TheVariants.{Data, Cluster}
use Rattle.command_table.specs.declared.command.DataCommand.{DataCommand}
use Rattle.command_table.specs.declared.command.SlotOrder.{SlotOrder}
use Rattle.command_table.specs.declared.command.SlotOrder.TheVariants.{Importing, Migrating, Node}
use Rattle.command_table.specs.declared.fault.CommandFault.{CommandFault}
use Rattle.connections.specs.Connections.{ConnectionTable, aged, all_aged, all_freed, connection_at, freed, is_over, may_ask, open_at, opens_at, shortened, updated, waits_so, with_change, with_generation}
use Rattle.connections.specs.declared.conn.Conn.{Conn}
use Rattle.connections.specs.declared.conn.Connection.{Connection}
use Rattle.connections.specs.declared.conn.Wait.{Wait}
use Rattle.key_slot.specs.Slot.{hash_slot}
use Rattle.keyspace.specs.Keyspace.{Keyspace}
use Rattle.migrate.specs.Acknowledging.{acknowledged_keys}
use Rattle.migrate.specs.declared.sending.CopyVerdict.{CopyVerdict}
use Rattle.migrate.specs.declared.sending.CopyVerdict.TheVariants as copies
use Rattle.redirect.specs.Asked.{Asked, are_several, all_there, is_frozen, is_right, none_there}
use Rattle.redirect.specs.Decision.{at_owner, by_keys, coming, has_other_slot, in_slot}
use Rattle.redirect.specs.declared.asked.Asking.{Asking}
use Rattle.redirect.specs.declared.asked.Asking.TheVariants.{No}
use Rattle.redirect.specs.declared.decision.Decision.{Decision}
use Rattle.redirect.specs.declared.decision.Decision.TheVariants.{Serve, ServeImport, CrossSlot, Down, TryAgain, Ask, Moved}
use Rattle.redirect.specs.declared.decision.Reason.TheVariants.{SomeAreMissing}
use Rattle.slot_state.specs.Moves.{Moves, copy_id, move_of}
use Rattle.slot_state.specs.declared.ending.NodeVerdict.{NodeVerdict}
use Rattle.slot_state.specs.declared.ending.NodeVerdict.TheVariants as ending
use Rattle.slot_state.specs.declared.running.Move.{Move}
use Rattle.slot_state.specs.declared.running.Move.TheVariants.{Leaves as Goes, Comes}
use Rattle.slot_state.specs.declared.state.SlotState.{SlotState}
use Rattle.slot_state.specs.declared.state.SlotState.TheVariants.{Owned, Foreign, Moving}
use Rattle.slot_state.specs.declared.copy_id.CopyId.{CopyId}
use Rattle.slot_table.specs.Claims.{merged}
use Rattle.slot_table.specs.declared.entry.SlotEntry.{SlotEntry}
use Rattle.node_step.specs.Claiming.{claimed_by}
use Rattle.node_step.specs.Commands.{asked_of, command_outcome, decision_on}
use Rattle.node_step.specs.Copies.{acknowledged, copy_outcome, copy_verdict_on, first_slot, node_at, those_there, waiting_for}
use Rattle.node_step.proofs.Kept.{pieced_keeps, with_written_keeps, restored_keeps, synced_is}
use Rattle.node_step.proofs.WithWritten.{with_written_response}
use Rattle.election.specs.Electing.{counted, elected}
use Rattle.election.specs.Health.{Candidate, Health}
use Rattle.election.specs.declared.running.Elected.{Elected}
use Rattle.node_step.proofs.Ready.{in_election_keeps, ready_keeps}
use Rattle.node_step.specs.Failing.{a_tick_older, members_of}
use Rattle.node_step.specs.Messages.{Choice, delivered, ready, taken, taken_so, written_by_message}
use Rattle.node_step.specs.Promotion.{handed_promotion, promotion, promotion_to, table_handed}
use Rattle.node_step.specs.Voting.{due_epoch, if_elected}
use Rattle.node_step.specs.Orders.{ending_outcome, ending_verdict}
use Rattle.node_step.specs.Outcome.{Outcome, silent}
use Rattle.node_step.specs.Requests.{asking_for, asking_of, by_command, cluster_outcome, is_numbered, node_with_id, order_outcome, request_outcome, using_up, with_asking}
use Rattle.node_step.specs.State.{Handover, NodeState, is_replica, own_master}
use Rattle.node_step.specs.Step.{IsAnswering, IsClosing, IsOpening, MayCome, NodeStep, written}
use Rattle.node_step.specs.Ticks.{slots_tick, tick}
use Rattle.node_step.specs.declared.event.Event.{Event}
use Rattle.node_step.specs.declared.event.Event.TheVariants.{Open, Close, Request, Deliver, Tick}
use Rattle.node_step.specs.declared.outputs.Outputs.{Outputs}
use Rattle.node_step.specs.declared.response.Answer.{Answer}
use Rattle.node_step.specs.declared.response.Response.{Response}
use Rattle.node_step.specs.declared.response.Response.TheVariants.{Nothing, Opened, Replied, Parked}
use Rattle.world_run.specs.Executed.{decision_in}
use Rattle.node_step.specs.Handovers.{failover, handing_over, is_at_end, may_pause, noting}

-- the connection allows its next request what it did, or nothing any more
abbrev pub IsCalm : Asking → Asking → Type 0
IsCalm old new = (new ≡ old) ⊎ (new ≡ No)

-- ASKING, with the number of a move or without one
abbrev pub IsAskingWords : List (List ℕ) → Type 0
IsAskingWords words = (number : Option ℕ) × (command_of words ≡ Ok (Cluster (cluster.Asking number)))

-- what a connection allows its next request at the node
abbrev pub asking_on : NodeState → Conn → Asking
asking_on node conn = asking_of (connection_at node.connections conn)

-- a step for the event changes what this connection allows
abbrev pub IsAskedBy : Event → Conn → Type 0
IsAskedBy (Request conn words) other = (other ≡ conn) × IsAskingWords words
IsAskedBy Open other = ⊥
IsAskedBy (Close conn) other = ⊥
IsAskedBy (Deliver message) other = ⊥
IsAskedBy Tick other = ⊥

-- the other connections are as they were, or allow nothing any more
pub record Leaves (event : Event) (old new : NodeState) : Type 0 where
  pub config : new.config ≡ old.config
  pub opens : (key : ℕ) → opens_at old.connections key ≤ opens_at new.connections key
  pub calm : (conn : Conn) → IsCalm (asking_on old conn) (asking_on new conn) ⊎ IsAskedBy event conn

-- ---- tables of connections

pub no_some : {A : Type 0} {o : Option A} {x : A} → o ≡ None → o ≡ Some x → ⊥
no_some none some = cc

in_some : {A : Type 0} {x y : A} → Some x ≡ Some y → x ≡ y
in_some same = cc

pub same_conn : (one other : Conn) → one.key ≡ other.key → one.generation ≡ other.generation → one ≡ other
same_conn one other key generation = λ i. record { key = key i; generation = generation i }

pub cases_conn : (one other : Conn) → (one ≡ other) ⊎ (one ≢ other)
cases_conn one other =
    elim (cases_eq one.key other.key) [
      | inr apart ↦ inr (λ same. apart (ap (λ (conn : Conn). conn.key) same))
      | inl key ↦
          elim (cases_eq one.generation other.generation) [
            | inr apart ↦ inr (λ same. apart (ap (λ (conn : Conn). conn.generation) same))
            | inl generation ↦ inl (same_conn one other key generation)
          ]
    ]

-- a connection is found by its generation
pub is_with : (generation : ℕ) (connection : Connection) → connection.generation ≡ generation → with_generation generation (Some connection) ≡ Some connection
is_with generation connection is =
    cond-true (connection.generation == generation) (Some connection) None (eq-eqb connection.generation generation is)

pub is_not_with : (generation : ℕ) (connection : Connection) → connection.generation ≢ generation → with_generation generation (Some connection) ≡ None
is_not_with generation connection apart =
    cond-false (connection.generation == generation) (Some connection) None (ne_eqb connection.generation generation apart)

pub found_with : (generation : ℕ) (slot : Option Connection) (connection : Connection) → with_generation generation slot ≡ Some connection
    → (slot ≡ Some connection) × (connection.generation ≡ generation)
found_with generation None connection is = absurd (no_some refl is)
found_with generation (Some there) connection is =
    elim (cases_eq there.generation generation) [
      | inr apart ↦ absurd (no_some (is_not_with generation there apart) is)
      | inl here ↦
          let same : there ≡ connection = in_some (sym (is_with generation there here) ∙ is) in
          (ap Some same, ap (λ (c : Connection). c.generation) (sym same) ∙ here)
    ]

set_here : (slots : List (Option Connection)) (key : ℕ) (old new : Connection) → get_or slots key None ≡ Some old → get_or (set slots key (Some new)) key None ≡ Some new
set_here [] key old new is = absurd (no_some refl is)
set_here (slot ∷ slots) zero old new is = refl
set_here (slot ∷ slots) (suc key) old new is = set_here slots key old new is

abbrev pub changed : (Connection → Connection) → Option Connection → Option Connection
changed change None = None
changed change (Some connection) = Some (change connection)

-- a change of one connection, which keeps its generation
module _ (table : ConnectionTable) (conn : Conn) (change : Connection → Connection) (same_generation : (connection : Connection) → (change connection).generation ≡ connection.generation) where
  pub changed_here : connection_at (with_change table conn change) conn ≡ changed change (connection_at table conn)
  changed_here = by_found (connection_at table conn) refl
    where
      by_found : (found : Option Connection) → connection_at table conn ≡ found → connection_at (updated table conn.key change found) conn ≡ changed change found
      by_found None is = is
      by_found (Some connection) is =
          let was = found_with conn.generation (open_at table conn.key) connection is in
          ap (with_generation conn.generation) (set_here table.slots conn.key connection (change connection) was.0)
          ∙ is_with conn.generation (change connection) (same_generation connection ∙ was.1)

  pub unchanged_there : (other : Conn) → other ≢ conn → connection_at (with_change table conn change) other ≡ connection_at table other
  unchanged_there other apart = by_found (connection_at table conn) refl
    where
      by_found : (found : Option Connection) → connection_at table conn ≡ found → connection_at (updated table conn.key change found) other ≡ connection_at table other
      by_found None is = refl
      by_found (Some connection) is =
          let was = found_with conn.generation (open_at table conn.key) connection is in
          elim (cases_eq other.key conn.key) [
            | inr elsewhere ↦ ap (with_generation other.generation) (get_or-set_other table.slots conn.key other.key (Some (change connection)) None elsewhere)
            | inl here ↦
                let different : conn.generation ≢ other.generation = λ same. apart (same_conn other conn here (sym same)) in
                ap (λ key. with_generation other.generation (get_or (set table.slots conn.key (Some (change connection))) key None)) here
                ∙ ap (with_generation other.generation) (set_here table.slots conn.key connection (change connection) was.0)
                ∙ is_not_with other.generation (change connection) (λ same. different (sym (same_generation connection ∙ was.1) ∙ same))
                ∙ sym (ap (λ key. with_generation other.generation (open_at table key)) here
                ∙ ap (with_generation other.generation) was.0
                ∙ is_not_with other.generation connection (λ same. different (sym was.1 ∙ same)))
          ]

  pub same_opens : (with_change table conn change).opens ≡ table.opens
  same_opens = by_found (connection_at table conn)
    where
      by_found : (found : Option Connection) → (updated table conn.key change found).opens ≡ table.opens
      by_found None = refl
      by_found (Some connection) = refl

  -- where it keeps what the connection allows, all connections allow what they did
  pub same_asking : ((connection : Connection) → (change connection).asking ≡ connection.asking) → (other : Conn) → asking_of (connection_at (with_change table conn change) other) ≡ asking_of (connection_at table other)
  same_asking quiet other =
      elim (cases_conn other conn) [
        | inr apart ↦ ap asking_of (unchanged_there other apart)
        | inl here ↦
            ap (λ c. asking_of (connection_at (with_change table conn change) c)) here ∙ ap asking_of changed_here
            ∙ by_found (connection_at table conn) ∙ sym (ap (λ c. asking_of (connection_at table c)) here)
      ]
    where
      by_found : (found : Option Connection) → asking_of (changed change found) ≡ asking_of found
      by_found None = refl
      by_found (Some connection) = quiet connection

-- connections that wait no more, or for a tick less, allow what they did
with_waits : (connection : Connection) (waits : Option Wait) (is : Bool) → asking_of (cond is (Some (record connection { waits = waits })) None) ≡ asking_of (cond is (Some connection) None)
with_waits connection waits true = refl
with_waits connection waits false = refl

freed_asking : (test : Wait → Bool) (generation : ℕ) (slot : Option Connection) → asking_of (with_generation generation (freed test slot)) ≡ asking_of (with_generation generation slot)
freed_asking test generation None = refl
freed_asking test generation (Some connection) = by_test (waits_so test connection.waits)
  where
    by_test : (frees : Bool) → asking_of (with_generation generation (cond frees (Some (record connection { waits = None })) (Some connection))) ≡ asking_of (with_generation generation (Some connection))
    by_test true = with_waits connection None (connection.generation == generation)
    by_test false = refl

aged_asking : (generation : ℕ) (slot : Option Connection) → asking_of (with_generation generation (aged slot)) ≡ asking_of (with_generation generation slot)
aged_asking generation None = refl
aged_asking generation (Some connection) = with_waits connection (shortened connection.waits) (connection.generation == generation)

all_freed_asking : (table : ConnectionTable) (test : Wait → Bool) (conn : Conn) → asking_of (connection_at (all_freed table test) conn) ≡ asking_of (connection_at table conn)
all_freed_asking table test conn =
    ap (λ slot. asking_of (with_generation conn.generation slot)) (get_or-map (freed test) table.slots conn.key None)
    ∙ freed_asking test conn.generation (open_at table conn.key)

all_aged_asking : (table : ConnectionTable) (conn : Conn) → asking_of (connection_at (all_aged table) conn) ≡ asking_of (connection_at table conn)
all_aged_asking table conn =
    ap (λ slot. asking_of (with_generation conn.generation slot)) (get_or-map aged table.slots conn.key None)
    ∙ aged_asking conn.generation (open_at table conn.key)

-- where nothing is open, or one that allows nothing
none_asks_nothing : (generation : ℕ) (slot : Option Connection) → slot ≡ None → asking_of (with_generation generation slot) ≡ No
none_asks_nothing generation slot is = ap (λ (s : Option Connection). asking_of (with_generation generation s)) is

one_asks_nothing : (generation : ℕ) (slot : Option Connection) (connection : Connection) → slot ≡ Some connection → connection.asking ≡ No → asking_of (with_generation generation slot) ≡ No
one_asks_nothing generation slot connection is calm =
    ap (λ (s : Option Connection). asking_of (with_generation generation s)) is ∙ by_generation (connection.generation == generation)
  where
    by_generation : (is_it : Bool) → asking_of (cond is_it (Some connection) None) ≡ No
    by_generation true = calm
    by_generation false = refl

-- ---- steps that change no asking

-- the configuration stays, no connection is opened, and each allows what it did
record Stays (old new : NodeState) : Type 0 where
  config : new.config ≡ old.config
  opens : new.connections.opens ≡ old.connections.opens
  asking : (conn : Conn) → asking_on new conn ≡ asking_on old conn

still : {old new : NodeState} → new.config ≡ old.config → new.connections ≡ old.connections → Stays old new
still config connections = record {
  config = config;
  opens = ap (λ (table : ConnectionTable). table.opens) connections;
  asking = λ conn. ap (λ (table : ConnectionTable). asking_of (connection_at table conn)) connections;
}

command_stays : (node : NodeState) (numbered : Bool) (command : DataCommand) (why : Decision) → Stays node (command_outcome node numbered command why).state
command_stays node numbered command Serve = still refl refl
command_stays node numbered command (ServeImport number) = still refl refl
command_stays node numbered command CrossSlot = still refl refl
command_stays node numbered command Down = still refl refl
command_stays node numbered command (TryAgain reason) = still refl refl
command_stays node numbered command (Ask slot to number) = still refl refl
command_stays node numbered command (Moved slot to) = still refl refl

ending_stays : (node : NodeState) (slot : ℕ) (verdict : NodeVerdict) → Stays node (ending_outcome node slot verdict).state
ending_stays node slot (ending.Ends drained) = still refl refl
ending_stays node slot ending.UnknownNode = still refl refl
ending_stays node slot ending.OldMove = still refl refl
ending_stays node slot ending.NotDrained = still refl refl
ending_stays node slot ending.IsOwner = still refl refl
ending_stays node slot ending.NotYetOwner = still refl refl

order_stays : (node : NodeState) (slot : ℕ) (order : SlotOrder) (other number : Option ℕ) → Stays node (order_outcome node slot order other number).state
order_stays node slot Importing other number = still refl refl
order_stays node slot Migrating other number = still refl refl
order_stays node slot Node other number = ending_stays node slot (ending_verdict node slot other number)

copy_stays : (node : NodeState) (conn : Conn) (slot : ℕ) (keys : List (List ℕ)) (ticks : ℕ) (verdict : CopyVerdict) → Stays node (copy_outcome node conn slot keys ticks verdict).state
copy_stays node conn slot keys ticks copies.CrossSlot = still refl refl
copy_stays node conn slot keys ticks copies.WrongTarget = still refl refl
copy_stays node conn slot keys ticks copies.NoKey = still refl refl
copy_stays node conn slot keys ticks copies.CopyOutstanding = still refl refl
copy_stays node conn slot keys ticks copies.Exhausted = still refl refl
copy_stays node conn slot keys ticks (copies.SendAgain to number copy) = record {
  config = refl;
  opens = same_opens node.connections conn (waiting_for (copy_id slot number copy) ticks) (λ connection. refl);
  asking = same_asking node.connections conn (waiting_for (copy_id slot number copy) ticks) (λ connection. refl) (λ connection. refl);
}
copy_stays node conn slot keys ticks (copies.Copies to number copy) = record {
  config = refl;
  opens = same_opens node.connections conn (waiting_for (copy_id slot number copy) ticks) (λ connection. refl);
  asking = same_asking node.connections conn (waiting_for (copy_id slot number copy) ticks) (λ connection. refl) (λ connection. refl);
}

failover_stays : (node : NodeState) (master : Option ℕ) → Stays node (failover node master).state
failover_stays node None = still refl refl
failover_stays node (Some master) = still refl refl

-- the state after a command: all connections allow what they did, or the command was ASKING
abbrev IsAfter : NodeState → Conn → Result Command CommandFault → NodeState → Type 0
IsAfter old conn command new = Stays old new ⊎ ((number : Option ℕ) × (command ≡ Ok (Cluster (cluster.Asking number))) × (new ≡ with_asking old conn number))

cluster_after : (node : NodeState) (conn : Conn) (command : ClusterCommand) → IsAfter node conn (Ok (Cluster command)) (cluster_outcome node conn command).state
cluster_after node conn (cluster.KeySlot key) = inl (still refl refl)
cluster_after node conn cluster.MyId = inl (still refl refl)
cluster_after node conn cluster.Slots = inl (still refl refl)
cluster_after node conn (cluster.CountKeysInSlot slot) = inl (still refl refl)
cluster_after node conn (cluster.GetKeysInSlot slot count) = inl (still refl refl)
cluster_after node conn (cluster.SlotState slot) = inl (still refl refl)
cluster_after node conn (cluster.SetSlot slot order id number) = inl (order_stays node slot order (node_with_id node id) number)
cluster_after node conn cluster.Numbered = inl (record {
  config = refl;
  opens = same_opens node.connections conn (λ connection. record connection { numbered = true }) (λ connection. refl);
  asking = same_asking node.connections conn (λ connection. record connection { numbered = true }) (λ connection. refl) (λ connection. refl);
})
cluster_after node conn cluster.Failover = inl (failover_stays node (own_master node))
cluster_after node conn (cluster.Asking number) = inr (number, refl, refl)
cluster_after node conn (cluster.Migrate host port keys timeout) = inl (copy_stays node conn (first_slot keys) (those_there node.keyspace keys) timeout (copy_verdict_on node keys (node_at node host port)))

command_after : (node : NodeState) (conn : Conn) (connection : Option Connection) (command : Result Command CommandFault)
    → IsAfter node conn command (by_command node conn connection command).state
command_after node conn connection (Err fault) = inl (still refl refl)
command_after node conn connection (Ok (Cluster command)) = cluster_after node conn command
command_after node conn connection (Ok (Data command)) = inl (command_stays node (is_numbered connection) command (decision_on node command (asking_of connection)))

-- ---- requests

-- the changes of what a connection allows
abbrev used : Connection → Connection
used connection = record connection { asking = No }

abbrev allowed : Option ℕ → Connection → Connection
allowed number connection = record connection { asking = asking_for number }

used_up : (node : NodeState) (conn : Conn) → asking_on (using_up node conn) conn ≡ No
used_up node conn = ap asking_of (changed_here node.connections conn used (λ connection. refl)) ∙ by_found (connection_at node.connections conn)
  where
    by_found : (found : Option Connection) → asking_of (changed used found) ≡ No
    by_found None = refl
    by_found (Some connection) = refl

asked_for : (node : NodeState) (conn : Conn) (number : Option ℕ) → (asking_on (with_asking node conn number) conn ≡ No) ⊎ (asking_on (with_asking node conn number) conn ≡ asking_for number)
asked_for node conn number =
    subst (λ (found : Option Connection). (asking_of found ≡ No) ⊎ (asking_of found ≡ asking_for number))
    (sym (changed_here node.connections conn (allowed number) (λ connection. refl))) (by_found (connection_at node.connections conn))
  where
    by_found : (found : Option Connection) → (asking_of (changed (allowed number) found) ≡ No) ⊎ (asking_of (changed (allowed number) found) ≡ asking_for number)
    by_found None = inl refl
    by_found (Some connection) = inr refl

same_count : {old new : List ℕ} → new ≡ old → (key : ℕ) → get_or old key 0 ≤ get_or new key 0
same_count same key = omega (arith, ap (λ (opens : List ℕ). get_or opens key 0) same)

request_leaves : (old : NodeState) (conn : Conn) (words : List (List ℕ)) → Leaves (Request conn words) old (request_outcome old conn (command_of words)).state
request_leaves old conn words =
    let middle : NodeState = using_up old conn in
    let counts : middle.connections.opens ≡ old.connections.opens = same_opens old.connections conn used (λ connection. refl) in
    elim (command_after middle conn (connection_at old.connections conn) (command_of words)) [
      | inl stays ↦ record {
        config = stays.config;
        opens = same_count (stays.opens ∙ counts);
        calm = λ other.
            elim (cases_conn other conn) [
              | inl same ↦ inl (inr (stays.asking other ∙ ap (asking_on middle) same ∙ used_up old conn))
              | inr apart ↦ inl (inl (stays.asking other ∙ ap asking_of (unchanged_there old.connections conn used (λ connection. refl) other apart)))
            ];
      }
      | inr asks ↦ record {
        config = ap (λ (node : NodeState). node.config) asks.2;
        opens = same_count (ap (λ (node : NodeState). node.connections.opens) asks.2 ∙ same_opens middle.connections conn (allowed asks.0) (λ connection. refl) ∙ counts);
        calm = λ other.
            elim (cases_conn other conn) [
              | inl same ↦ inr (same, (asks.0, asks.1))
              | inr apart ↦
                  inl (inl (
                  ap (λ (node : NodeState). asking_on node other) asks.2
                  ∙ ap asking_of (unchanged_there middle.connections conn (allowed asks.0) (λ connection. refl) other apart)
                  ∙ ap asking_of (unchanged_there old.connections conn used (λ connection. refl) other apart)
                  ))
            ];
      }
    ]

-- what the connection allows after its request with these words
abbrev UsesUp : Conn → List (List ℕ) → NodeState → Type 0
UsesUp conn words node = (asking_on node conn ≡ No) ⊎ ((number : Option ℕ) × (command_of words ≡ Ok (Cluster (cluster.Asking number))) × (asking_on node conn ≡ asking_for number))

uses_up : (old : NodeState) (conn : Conn) (words : List (List ℕ)) → UsesUp conn words (request_outcome old conn (command_of words)).state
uses_up old conn words =
    elim (command_after (using_up old conn) conn (connection_at old.connections conn) (command_of words)) [
      | inl stays ↦ inl (stays.asking conn ∙ used_up old conn)
      | inr asks ↦
          let same = ap (λ (node : NodeState). asking_on node conn) asks.2 in
          elim (asked_for (using_up old conn) conn asks.0) [
            | inl nothing ↦ inl (same ∙ nothing)
            | inr allows ↦ inr (asks.0, asks.1, same ∙ allows)
          ]
    ]

-- a request that is answered was one that the connection might make
no_reply : {answer : Answer} → Nothing ≡ Replied answer → ⊥
no_reply same = cc

is_answering : (old : NodeState) (conn : Conn) (words : List (List ℕ)) (asks : Bool) (outcome : Outcome) (answer : Answer)
    → MatchBool asks (IsAnswering old conn words outcome) (outcome ≡ silent old) → outcome.response ≡ Replied answer → IsAnswering old conn words outcome
is_answering old conn words true outcome answer may answers = may
is_answering old conn words false outcome answer may answers = absurd (no_reply (ap (λ (o : Outcome). o.response) (sym may) ∙ answers))

-- ---- other events

-- whatever its stream is, and its keyspace
stays_beside : {old : NodeState} (new : NodeState) (stream : StreamView) (keyspace : Keyspace) → Stays old new → Stays old (record new { stream = stream; keyspace = keyspace })
stays_beside new stream keyspace stays = record { config = stays.config; opens = stays.opens; asking = stays.asking }

-- what any message tells bears on no connection, and what is taken then
module _ (node : NodeState) (from epoch : ℕ) (masters : List (Option ℕ)) (health : Health) (candidate : Candidate) (handover : Handover) (choice : Choice) where
  abbrev heard : NodeState
  heard = record node { current_epoch = epoch; masters = masters; health = health; candidate = candidate; handover = handover }

  acknowledged_stays : (id : CopyId) (keys : Option (List (List ℕ))) → Stays node (acknowledged heard id keys).state
  acknowledged_stays id None = still refl refl
  acknowledged_stays id (Some keys) = record { config = refl; opens = refl; asking = all_freed_asking node.connections _ }

  claim_stays : (is_own : Bool) (table : List (Option SlotEntry)) → Stays node (cond is_own (silent heard) (claimed_by heard table)).state
  claim_stays true table = still refl refl
  claim_stays false table = record { config = refl; opens = refl; asking = all_freed_asking node.connections _ }

  elected_stays : (counted : Candidate) (won : Option Elected) → Stays node (if_elected (record heard { candidate = counted }) won).state
  elected_stays counted None = still refl refl
  elected_stays counted (Some elected) = by_plan counted.planned
    where
      by_master : (master : Option ℕ) → Stays node (promotion (record heard { candidate = counted }) elected.epoch master).state
      by_master None = still refl refl
      by_master (Some master) = still refl refl

      handed : (master : Option ℕ) (told : Option Handing) → Stays node (handed_promotion (record heard { candidate = counted }) elected.epoch master told).state
      handed None told = still refl refl
      handed (Some master) None = still refl refl
      handed (Some master) (Some handing) = by_place (is_at_end node.stream (Some handing))
        where
          by_place : (b : Bool) → Stays node (cond b (promotion_to (record heard { candidate = counted }) master elected.epoch true (table_handed (record heard { candidate = counted }) handing.slots elected.epoch))
              (silent (record heard { candidate = counted }))).state
          by_place true = still refl refl
          by_place false = still refl refl

      by_plan : (planned : Bool) → Stays node (cond planned (handed_promotion (record heard { candidate = counted }) elected.epoch (own_master heard) handover.note) (promotion (record heard { candidate = counted }) elected.epoch (own_master heard))).state
      by_plan true = handed (own_master heard) handover.note
      by_plan false = by_master (own_master heard)

  pause_stays : (b : Bool) → Stays node (cond b (handing_over heard from) (silent heard)).state
  pause_stays true = still refl refl
  pause_stays false = still refl refl

  noting_stays : (handing : Handing) (b : Bool) → Stays node (cond b (record heard { handover = noting handover handing }) heard)
  noting_stays handing true = still refl refl
  noting_stays handing false = still refl refl

  taken_so_stays : (body : Body) → Stays node (taken_so heard from choice body).state
  taken_so_stays (Slots (Copy id pairs)) = still refl refl
  taken_so_stays (Slots (Ack id)) = acknowledged_stays id (acknowledged_keys (move_of node.moves id.slot) from id.number id.copy)
  taken_so_stays (Slots (Drained slot number epoch)) = still refl refl
  taken_so_stays (Slots (Claim slots replaced)) = claim_stays (from == node.number) (merged node.table slots from)
  taken_so_stays (Report suspects) = still refl refl
  taken_so_stays (Election (Requested request)) = still refl refl
  taken_so_stays (Election (Grant granted)) = elected_stays (counted candidate (members_of heard) from granted) (elected candidate (members_of heard) from granted)
  taken_so_stays (Stream (Sync sync)) = synced_is (λ (o : Outcome). Stays node o.state) heard from sync (still refl refl) (still refl refl)
  taken_so_stays (Stream (Piece piece)) = pieced_keeps (Stays node) heard (λ stream keyspace. still refl refl) from piece choice.follower
  taken_so_stays (Stream (Snapshot snapshot)) = restored_keeps (Stays node) heard (λ stream keyspace. still refl refl) from snapshot
  taken_so_stays (Election (Pause stream)) = pause_stays (may_pause heard from stream)
  taken_so_stays (Election (Paused handing)) = noting_stays handing (is_replica heard && is_same handing.stream heard.stream.held.id)

  taken_stays : (body : Body) → Stays node (taken heard from choice body).state
  taken_stays body =
      let outcome : Outcome = taken_so heard from choice body in
      with_written_keeps (Stays node) outcome (written_by_message heard from body) choice.dropped (λ stream. stays_beside outcome.state stream outcome.state.keyspace (taken_so_stays body))

delivered_stays : (node : NodeState) (message : Message) (choice : Choice) → Stays node (delivered node message choice).state
delivered_stays node message choice = by_node (message.to == node.number)
  where
    by_node : (is_here : Bool) → Stays node (cond is_here (taken (ready node message) message.from choice message.body) (silent node)).state
    by_node true =
        ready_keeps (λ (own : NodeState). Stays node (taken own message.from choice message.body).state) node message
        (λ epoch masters health candidate handover as_before goes. taken_stays node message.from epoch masters health candidate handover choice message.body)
    by_node false = still refl refl

tick_stays : (node : NodeState) → Stays node (tick node).state
tick_stays node =
    let aged = a_tick_older (slots_tick node).state in
    in_election_keeps (Stays node) aged (due_epoch aged)
    (λ current candidate handover. record {
      config = refl;
      opens = refl;
      asking = λ conn. all_aged_asking (all_freed node.connections is_over) conn ∙ all_freed_asking node.connections is_over conn;
    })

stays_leaves : (event : Event) (old new : NodeState) → Stays old new → Leaves event old new
stays_leaves event old new stays = record { config = stays.config; opens = same_count stays.opens; calm = λ conn. inl (inl (stays.asking conn)) }

open_leaves : (old : NodeState) (outcome : Outcome) → IsOpening old outcome → Leaves Open old outcome.state
open_leaves old outcome may = record {
  config = ap (λ (o : Outcome). o.state.config) may.comes_to;
  opens = counts;
  calm = λ conn. inl (calm_there conn);
} where
  counts : (key : ℕ) → opens_at old.connections key ≤ opens_at outcome.state.connections key
  counts key =
      elim (cases_eq key may.conn.key) [
        | inl here ↦ subst (λ k. opens_at old.connections k ≤ opens_at outcome.state.connections k) (sym here) (omega (arith, may.opens.counted))
        | inr elsewhere ↦ omega (arith, may.opens.other_counts key elsewhere)
      ]

  calm_there : (conn : Conn) → IsCalm (asking_on old conn) (asking_on outcome.state conn)
  calm_there conn =
      elim (cases_eq conn.key may.conn.key) [
        | inl here ↦ inr (one_asks_nothing conn.generation (open_at outcome.state.connections conn.key) _ (ap (open_at outcome.state.connections) here ∙ may.opens.opened) refl)
        | inr elsewhere ↦ inl (ap (λ slot. asking_of (with_generation conn.generation slot)) (may.opens.others conn.key elsewhere))
      ]

closing_leaves : (old : NodeState) (conn : Conn) (outcome : Outcome) → IsClosing old conn outcome → Leaves (Close conn) old outcome.state
closing_leaves old conn outcome may = record {
  config = ap (λ (o : Outcome). o.state.config) may.comes_to;
  opens = same_count may.closes.counts;
  calm = λ other. inl (calm_there other);
} where
  calm_there : (other : Conn) → IsCalm (asking_on old other) (asking_on outcome.state other)
  calm_there other =
      elim (cases_eq other.key conn.key) [
        | inl here ↦ inr (none_asks_nothing other.generation (open_at outcome.state.connections other.key) (ap (open_at outcome.state.connections) here ∙ may.closes.closed))
        | inr elsewhere ↦ inl (ap (λ slot. asking_of (with_generation other.generation slot)) (may.closes.others other.key elsewhere))
      ]

silent_leaves : (event : Event) (old : NodeState) (outcome : Outcome) → outcome ≡ silent old → Leaves event old outcome.state
silent_leaves event old outcome is = subst (λ (o : Outcome). Leaves event old o.state) (sym is) (stays_leaves event old old (still refl refl))

close_leaves : (old : NodeState) (conn : Conn) (is_open : Bool) (outcome : Outcome) → MatchBool is_open (IsClosing old conn outcome) (outcome ≡ silent old) → Leaves (Close conn) old outcome.state
close_leaves old conn true outcome may = closing_leaves old conn outcome may
close_leaves old conn false outcome may = silent_leaves (Close conn) old outcome may

answer_leaves : (old : NodeState) (conn : Conn) (words : List (List ℕ)) (asks : Bool) (outcome : Outcome) → MatchBool asks (IsAnswering old conn words outcome) (outcome ≡ silent old)
    → Leaves (Request conn words) old outcome.state
answer_leaves old conn words true outcome may =
    let left = request_leaves old conn words in
    subst (λ (o : Outcome). Leaves (Request conn words) old o.state) (sym may.comes_to)
    (with_written_keeps (Leaves (Request conn words) old) (request_outcome old conn (command_of words)) (written old conn words) may.dropped
    (λ stream. record { config = left.config; opens = left.opens; calm = left.calm }))
answer_leaves old conn words false outcome may = silent_leaves (Request conn words) old outcome may

event_leaves : (old : NodeState) (event : Event) (outcome : Outcome) → MayCome old event outcome → Leaves event old outcome.state
event_leaves old Open outcome may = open_leaves old outcome may
event_leaves old (Close conn) outcome may = close_leaves old conn (is_some (connection_at old.connections conn)) outcome may
event_leaves old (Request conn words) outcome may = answer_leaves old conn words (may_ask (connection_at old.connections conn)) outcome may
event_leaves old (Deliver message) outcome may =
    subst (λ (o : Outcome). Leaves (Deliver message) old o.state) (sym may.comes_to)
    (stays_leaves (Deliver message) old (delivered old message may.choice).state (delivered_stays old message may.choice))
event_leaves old Tick outcome may = subst (λ (o : Outcome). Leaves Tick old o.state) (sym may.comes_to) (stays_leaves Tick old (tick old).state (tick_stays old))

pub step_leaves : (ticket : ℕ) (old new : NodeState) (event : Event) (outputs : Outputs) → NodeStep ticket old event outputs new → Leaves event old new
step_leaves ticket old new event outputs step = subst (Leaves event old) (sym step.state) (event_leaves old event step.outcome step.may_come)

-- a request that is answered uses up what its connection allowed, and only ASKING allows something again
pub request_uses_up : (ticket : ℕ) (old new : NodeState) (conn : Conn) (words : List (List ℕ)) (outputs : Outputs) (answer : Answer) → NodeStep ticket old (Request conn words) outputs new
    → outputs.response ≡ Replied answer
    → (asking_on new conn ≡ No) ⊎ ((number : Option ℕ) × (command_of words ≡ Ok (Cluster (cluster.Asking number))) × (asking_on new conn ≡ asking_for number))
request_uses_up ticket old new conn words outputs answer step answers =
    let answered : step.outcome.response ≡ Replied answer = sym (ap (λ (o : Outputs). o.response) step.outputs_are) ∙ answers in
    let may : IsAnswering old conn words step.outcome = is_answering old conn words (may_ask (connection_at old.connections conn)) step.outcome answer step.may_come answered in
    subst (UsesUp conn words) (sym (step.state ∙ ap (λ (o : Outcome). o.state) may.comes_to))
    (with_written_keeps (UsesUp conn words) (request_outcome old conn (command_of words)) (written old conn words) may.dropped (λ stream. uses_up old conn words))

-- a connection that is opened wasn't opened before, and allows nothing
pub record IsNew (old new : NodeState) (conn : Conn) : Type 0 where
  pub fresh : opens_at old.connections conn.key ≤ conn.generation
  pub known : conn.generation < opens_at new.connections conn.key
  pub calm : asking_on new conn ≡ No

opening_is_new : (old : NodeState) (outcome : Outcome) (may : IsOpening old outcome) → IsNew old outcome.state may.conn
opening_is_new old outcome may = record {
  fresh = omega (arith, may.opens.generation);
  known = omega (arith, may.opens.generation, may.opens.counted);
  calm = one_asks_nothing may.conn.generation (open_at outcome.state.connections may.conn.key) _ may.opens.opened refl;
}

same_opened : {one other : Conn} → Opened one ≡ Opened other → one ≡ other
same_opened same = cc

pub open_is_new : (ticket : ℕ) (old new : NodeState) (conn : Conn) (outputs : Outputs) → NodeStep ticket old Open outputs new → outputs.response ≡ Opened conn → IsNew old new conn
open_is_new ticket old new conn outputs step opened =
    let may : IsOpening old step.outcome = step.may_come in
    let response : step.outcome.response ≡ Opened conn = sym (ap (λ (o : Outputs). o.response) step.outputs_are) ∙ opened in
    let same : may.conn ≡ conn = same_opened (ap (λ (o : Outcome). o.response) (sym may.comes_to) ∙ response) in
    subst (λ (node : NodeState). IsNew old node conn) (sym step.state) (subst (IsNew old step.outcome.state) same (opening_is_new old step.outcome may))

-- a connection that is closed allows nothing
pub close_is_calm : (ticket : ℕ) (old new : NodeState) (conn : Conn) (outputs : Outputs) → NodeStep ticket old (Close conn) outputs new → asking_on new conn ≡ No
close_is_calm ticket old new conn outputs step =
    ap (λ (node : NodeState). asking_on node conn) step.state ∙ by_open (connection_at old.connections conn) refl step.may_come
  where
    by_open : (found : Option Connection) → connection_at old.connections conn ≡ found → MatchBool (is_some found) (IsClosing old conn step.outcome) (step.outcome ≡ silent old)
        → asking_on step.outcome.state conn ≡ No
    by_open (Some connection) is may = none_asks_nothing conn.generation (open_at step.outcome.state.connections conn.key) may.closes.closed
    by_open None is may = ap (λ (o : Outcome). asking_on o.state conn) may ∙ ap asking_of is

-- ---- decisions

-- a decision to execute in an importing slot is one that the asking allows
abbrev IsAllowed : Asking → ℕ → Decision → Type 0
IsAllowed asking number why = why ≡ ServeImport number → is_right asking number ≡ true

either : {A : Type 0} (P : A → Type 0) (b : Bool) (x y : A) → P x → P y → P (cond b x y)
either P true x y p q = p
either P false x y p q = q

owner_allowed : (asking : Asking) (number slot : ℕ) (owner : Option ℕ) → IsAllowed asking number (at_owner slot owner)
owner_allowed asking number slot None = λ same. absurd (cc)
owner_allowed asking number slot (Some owner) = λ same. absurd (cc)

coming_allowed : (asked : Asked) (number move : ℕ) → is_right asked.asking move ≡ true → IsAllowed asked.asking number (coming move asked)
coming_allowed asked number move right =
    either (IsAllowed asked.asking number) (are_several asked.keys && not (all_there asked)) (TryAgain SomeAreMissing) (ServeImport move) (λ same. absurd (cc))
    (λ same. let one : move ≡ number = cc in ap (is_right asked.asking) (sym one) ∙ right)

slot_allowed : (slot : ℕ) (owner : Option ℕ) (state : SlotState Move) (asked : Asked) (number : ℕ) → IsAllowed asked.asking number (in_slot slot owner state asked)
slot_allowed slot owner (Moving (Comes from move last drained)) asked number = by_right (is_right asked.asking move) refl
  where
    by_right : (right : Bool) → is_right asked.asking move ≡ right → IsAllowed asked.asking number (cond right (coming move asked) (at_owner slot owner))
    by_right true is = coming_allowed asked number move is
    by_right false is = owner_allowed asked.asking number slot owner
slot_allowed slot None (Moving (Goes to move copies frozen)) asked number = λ same. absurd (cc)
slot_allowed slot (Some owner) (Moving (Goes to move copies frozen)) asked number =
    either (IsAllowed asked.asking number) (is_frozen frozen asked.keys) _ _ (λ same. absurd (cc))
    (either (IsAllowed asked.asking number) (all_there asked) _ _ (λ same. absurd (cc))
    (either (IsAllowed asked.asking number) (none_there asked) _ _ (λ same. absurd (cc)) (λ same. absurd (cc))))
slot_allowed slot None Owned asked number = λ same. absurd (cc)
slot_allowed slot (Some owner) Owned asked number = either (IsAllowed asked.asking number) asked.paused _ _ (λ same. absurd (cc)) (λ same. absurd (cc))
slot_allowed slot owner Foreign asked number = owner_allowed asked.asking number slot owner

keys_allowed : (table : List (Option SlotEntry)) (moves : Moves) (node : ℕ) (keys : List (List ℕ)) (asked : Asked) (number : ℕ) → IsAllowed asked.asking number (by_keys table moves node keys asked)
keys_allowed table moves node [] asked number = λ same. absurd (cc)
keys_allowed table moves node (key ∷ others) asked number =
    either (IsAllowed asked.asking number) (has_other_slot (hash_slot key) others) _ _ (λ same. absurd (cc)) (slot_allowed (hash_slot key) _ _ asked number)

-- the answer, if the response is one, is such
abbrev Says : (Answer → Type 0) → Response → Type 0
Says P (Replied answer) = P answer
Says P Nothing = ⊤
Says P (Opened conn) = ⊤
Says P Parked = ⊤

abbrev AnswersAllowed : Asking → ℕ → Answer → Type 0
AnswersAllowed asking number answer = decision_in answer.why ≡ Some (ServeImport number) → is_right asking number ≡ true

module _ (asking : Asking) (number : ℕ) where
  abbrev Allows : Response → Type 0
  Allows response = Says (AnswersAllowed asking number) response

  data_allowed : (node : NodeState) (numbered : Bool) (command : DataCommand) (why : Decision) → IsAllowed asking number why → Allows (command_outcome node numbered command why).response
  data_allowed node numbered command Serve may = λ is. may (in_some is)
  data_allowed node numbered command (ServeImport move) may = λ is. may (in_some is)
  data_allowed node numbered command CrossSlot may = λ is. may (in_some is)
  data_allowed node numbered command Down may = λ is. may (in_some is)
  data_allowed node numbered command (TryAgain reason) may = λ is. may (in_some is)
  data_allowed node numbered command (Ask slot to move) may = λ is. may (in_some is)
  data_allowed node numbered command (Moved slot to) may = λ is. may (in_some is)

  ending_allowed : (node : NodeState) (slot : ℕ) (verdict : NodeVerdict) → Allows (ending_outcome node slot verdict).response
  ending_allowed node slot (ending.Ends drained) = λ is. absurd (no_some refl is)
  ending_allowed node slot ending.UnknownNode = λ is. absurd (no_some refl is)
  ending_allowed node slot ending.OldMove = λ is. absurd (no_some refl is)
  ending_allowed node slot ending.NotDrained = λ is. absurd (no_some refl is)
  ending_allowed node slot ending.IsOwner = λ is. absurd (no_some refl is)
  ending_allowed node slot ending.NotYetOwner = λ is. absurd (no_some refl is)

  order_allowed : (node : NodeState) (slot : ℕ) (order : SlotOrder) (other move : Option ℕ) → Allows (order_outcome node slot order other move).response
  order_allowed node slot Importing other move = λ is. absurd (no_some refl is)
  order_allowed node slot Migrating other move = λ is. absurd (no_some refl is)
  order_allowed node slot Node other move = ending_allowed node slot (ending_verdict node slot other move)

  copy_allowed : (node : NodeState) (conn : Conn) (slot : ℕ) (keys : List (List ℕ)) (ticks : ℕ) (verdict : CopyVerdict) → Allows (copy_outcome node conn slot keys ticks verdict).response
  copy_allowed node conn slot keys ticks copies.CrossSlot = λ is. absurd (no_some refl is)
  copy_allowed node conn slot keys ticks copies.WrongTarget = λ is. absurd (no_some refl is)
  copy_allowed node conn slot keys ticks copies.NoKey = λ is. absurd (no_some refl is)
  copy_allowed node conn slot keys ticks copies.CopyOutstanding = λ is. absurd (no_some refl is)
  copy_allowed node conn slot keys ticks copies.Exhausted = tt
  copy_allowed node conn slot keys ticks (copies.SendAgain to move copy) = tt
  copy_allowed node conn slot keys ticks (copies.Copies to move copy) = tt

  failover_allowed : (node : NodeState) (master : Option ℕ) → Allows (failover node master).response
  failover_allowed node None = λ is. absurd (no_some refl is)
  failover_allowed node (Some master) = λ is. absurd (no_some refl is)

  cluster_allowed : (node : NodeState) (conn : Conn) (command : ClusterCommand) → Allows (cluster_outcome node conn command).response
  cluster_allowed node conn (cluster.KeySlot key) = λ is. absurd (no_some refl is)
  cluster_allowed node conn cluster.MyId = λ is. absurd (no_some refl is)
  cluster_allowed node conn cluster.Slots = λ is. absurd (no_some refl is)
  cluster_allowed node conn (cluster.CountKeysInSlot slot) = λ is. absurd (no_some refl is)
  cluster_allowed node conn (cluster.GetKeysInSlot slot count) = λ is. absurd (no_some refl is)
  cluster_allowed node conn (cluster.SlotState slot) = λ is. absurd (no_some refl is)
  cluster_allowed node conn (cluster.SetSlot slot order id move) = order_allowed node slot order (node_with_id node id) move
  cluster_allowed node conn cluster.Numbered = λ is. absurd (no_some refl is)
  cluster_allowed node conn cluster.Failover = failover_allowed node (own_master node)
  cluster_allowed node conn (cluster.Asking move) = λ is. absurd (no_some refl is)
  cluster_allowed node conn (cluster.Migrate host port keys timeout) = copy_allowed node conn (first_slot keys) (those_there node.keyspace keys) timeout (copy_verdict_on node keys (node_at node host port))

command_allowed : (node : NodeState) (conn : Conn) (connection : Option Connection) (command : Result Command CommandFault) (number : ℕ)
    → Says (AnswersAllowed (asking_of connection) number) (by_command node conn connection command).response
command_allowed node conn connection (Err fault) number = λ is. absurd (no_some refl is)
command_allowed node conn connection (Ok (Cluster command)) number = cluster_allowed (asking_of connection) number node conn command
command_allowed node conn connection (Ok (Data command)) number =
    data_allowed (asking_of connection) number node (is_numbered connection) command (decision_on node command (asking_of connection))
    (keys_allowed node.table node.moves node.number (data_keys command) (asked_of node command (asking_of connection)) number)

-- a command is served in an importing slot only where the connection allows it
pub served_if_allowed : (ticket : ℕ) (old new : NodeState) (conn : Conn) (words : List (List ℕ)) (outputs : Outputs) (answer : Answer) (number : ℕ) → NodeStep ticket old (Request conn words) outputs new
    → outputs.response ≡ Replied answer → decision_in answer.why ≡ Some (ServeImport number) → is_right (asking_on old conn) number ≡ true
served_if_allowed ticket old new conn words outputs answer number step answers =
    let answered : step.outcome.response ≡ Replied answer = sym (ap (λ (o : Outputs). o.response) step.outputs_are) ∙ answers in
    let may : IsAnswering old conn words step.outcome = is_answering old conn words (may_ask (connection_at old.connections conn)) step.outcome answer step.may_come answered in
    subst (Says (AnswersAllowed (asking_on old conn) number))
    (sym (with_written_response (request_outcome old conn (command_of words)) (written old conn words) may.dropped) ∙ ap (λ (o : Outcome). o.response) (sym may.comes_to) ∙ answered)
    (command_allowed (using_up old conn) conn (connection_at old.connections conn) (command_of words) number)
