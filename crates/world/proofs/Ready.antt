-- Which connections a node takes a request of, from step to step: those that are open and wait for no reply.
use Rattle.std.proofs.Common.{◌&&◌, ◌≡◌, ◌≢◌, ◌⊎◌, ◌==◌, ◌+◌, ◌<◌, length, ℕ, zero, suc, List, [], ◌∷◌, Bool, true, false, true≢false, cond, Contains, map, Option, Some, None, is_none, is_some, get_or, refl, sym, ap, subst, ◌∙◌, inl, inr, arith}
use Rattle.std.proofs.Math.ListN.{get_or-map}
use Rattle.std.proofs.lemmas.Bool.{cases_eq, cases_Bool, cond-true, cond-false}
use Rattle.std.specs.Prelude.{MatchBool, Result, Ok, Err, ⊤}
use Rattle.bus.specs.Stream.{is_same}
use Rattle.bus.specs.declared.message.Body.{Body}
use Rattle.bus.specs.declared.bodies.ElectionBody.TheVariants.{Candidacy as Requested, Grant, Pause, Paused}
use Rattle.bus.specs.declared.bodies.SlotsBody.TheVariants.{Copy, Ack, Drained, Claim}
use Rattle.bus.specs.declared.bodies.StreamBody.TheVariants.{Sync, Piece, Snapshot}
use Rattle.bus.specs.declared.message.Body.TheVariants.{Slots, Stream, Election, Report}
use Rattle.bus.specs.declared.message.Message.{Message}
use Rattle.bus.specs.declared.bodies.Handing.{Handing}
use Rattle.command_table.specs.Table.{command_of}
use Rattle.command_table.specs.declared.command.ClusterCommand.{ClusterCommand}
use Rattle.command_table.specs.declared.command.ClusterCommand.TheVariants as cluster
use Rattle.command_table.specs.declared.command.Command.{Command}
use Rattle.command_table.specs.declared.command.Command.TheVariants.{Data, Cluster}
use Rattle.command_table.specs.declared.command.DataCommand.{DataCommand}
use Rattle.command_table.specs.declared.command.SlotOrder.{SlotOrder}
use Rattle.command_table.specs.declared.command.SlotOrder.TheVariants.{Importing, Migrating, Node}
use Rattle.command_table.specs.declared.fault.CommandFault.{CommandFault}
use Rattle.connections.specs.Connections.{Closes, ConnectionTable, Opens, aged, all_aged, all_freed, connection_at, fresh, freed, is_over, may_ask, open_at, shortened, waiting, waiting_from, waits_so, with_change, with_generation}
use Rattle.connections.specs.declared.conn.Conn.{Conn}
use Rattle.connections.specs.declared.conn.Connection.{Connection}
use Rattle.connections.specs.declared.conn.Wait.{Wait}
use Rattle.migrate.specs.Acknowledging.{acknowledged_keys}
use Rattle.migrate.specs.declared.sending.CopyVerdict.{CopyVerdict}
use Rattle.migrate.specs.declared.sending.CopyVerdict.TheVariants as copies
use Rattle.redirect.specs.declared.asked.Asking.TheVariants.{No}
use Rattle.redirect.specs.declared.decision.Decision.{Decision}
use Rattle.redirect.specs.declared.decision.Decision.TheVariants.{Serve, ServeImport, CrossSlot, Down, TryAgain, Ask, Moved}
use Rattle.slot_state.specs.Moves.{copy_id, move_of}
use Rattle.slot_state.specs.declared.ending.NodeVerdict.{NodeVerdict}
use Rattle.slot_state.specs.declared.ending.NodeVerdict.TheVariants as ending
use Rattle.slot_state.specs.declared.copy_id.CopyId.{CopyId}
use Rattle.slot_table.specs.Claims.{merged}
use Rattle.node_step.specs.Claiming.{claimed_by}
use Rattle.node_step.specs.Commands.{command_outcome, decision_on}
use Rattle.node_step.specs.Copies.{acknowledged, arrival, copy_outcome, copy_verdict_on, first_slot, node_at, noted, those_there, waiting_for}
use Rattle.node_step.proofs.Kept.{pieced_keeps, restored_keeps, synced_is}
use Rattle.election.specs.Electing.{elected}
use Rattle.election.specs.Health.{Candidate, Health}
use Rattle.election.specs.declared.running.Elected.{Elected}
use Rattle.node_step.proofs.Ready.{in_election_keeps, ready_keeps}
use Rattle.node_step.specs.Failing.{a_tick_older, members_of}
use Rattle.node_step.specs.Messages.{Choice, delivered, ready, taken, taken_so, written_by_message}
use Rattle.node_step.specs.Promotion.{handed_promotion, promotion, promotion_to, table_handed}
use Rattle.node_step.specs.Voting.{asked_for_vote, due_epoch, if_elected, request_of}
use Rattle.node_step.specs.Orders.{ending_outcome, ending_verdict}
use Rattle.node_step.specs.Outcome.{Outcome, release, silent}
use Rattle.node_step.specs.Requests.{asking_for, asking_of, by_command, cluster_outcome, is_numbered, node_with_id, order_outcome, request_outcome, using_up}
use Rattle.node_step.specs.State.{Handover, NodeState, is_replica, own_master}
use Rattle.node_step.specs.Step.{IsAnswering, IsClosing, IsOpening, MayCome, NodeStep, written}
use Rattle.node_step.specs.Streams.{Requests, with_written}
use Rattle.node_step.specs.Ticks.{slots_tick, tick}
use Rattle.node_step.specs.declared.event.Event.{Event}
use Rattle.node_step.specs.declared.event.Event.TheVariants.{Open, Close, Request, Deliver, Tick}
use Rattle.node_step.specs.declared.outputs.Outputs.{Outputs}
use Rattle.node_step.specs.declared.outputs.Release.{Release}
use Rattle.node_step.specs.declared.response.Response.{Response}
use Rattle.node_step.specs.declared.response.Response.TheVariants.{Nothing, Opened, Replied, Parked}
use Rattle.resp_values.specs.declared.reply.Reply.{Reply}
use Rattle.single_keyspace.proofs.Lists.{contains_nothing, from_map}
use Rattle.slot_table.specs.declared.entry.SlotEntry.{SlotEntry}
use Rattle.world_nodes.proofs.Connected.{cases_conn, changed, changed_here, found_with, is_not_with, is_with, same_conn, unchanged_there}
use Rattle.node_step.specs.Handovers.{failover, handing_over, is_at_end, may_pause, noting}

-- the node takes a request of the connection
abbrev pub may_at : ConnectionTable → Conn → Bool
may_at table conn = may_ask (connection_at table conn)

-- ---- waits that end

no_more : (connection : Connection) (is : Bool) → may_ask (cond is (Some connection) None) ≡ true → may_ask (cond is (Some (record connection { waits = None })) None) ≡ true
no_more connection true may = refl
no_more connection false may = absurd (true≢false (sym may))

freed_may : (test : Wait → Bool) (generation : ℕ) (slot : Option Connection) → may_ask (with_generation generation slot) ≡ true → may_ask (with_generation generation (freed test slot)) ≡ true
freed_may test generation None may = may
freed_may test generation (Some connection) may = by_test (waits_so test connection.waits)
  where
    by_test : (frees : Bool) → may_ask (with_generation generation (cond frees (Some (record connection { waits = None })) (Some connection))) ≡ true
    by_test true = no_more connection (connection.generation == generation) may
    by_test false = may

all_freed_may : (table : ConnectionTable) (test : Wait → Bool) (conn : Conn) → may_at table conn ≡ true → may_at (all_freed table test) conn ≡ true
all_freed_may table test conn may =
    ap (λ slot. may_ask (with_generation conn.generation slot)) (get_or-map (freed test) table.slots conn.key None)
    ∙ freed_may test conn.generation (open_at table conn.key) may

-- ---- waits that get shorter

still_none : (waits : Option Wait) → is_none (shortened waits) ≡ is_none waits
still_none None = refl
still_none (Some wait) = refl

aged_so : (connection : Connection) (is : Bool) → may_ask (cond is (Some (record connection { waits = shortened connection.waits })) None) ≡ may_ask (cond is (Some connection) None)
aged_so connection true = still_none connection.waits
aged_so connection false = refl

aged_may : (generation : ℕ) (slot : Option Connection) → may_ask (with_generation generation (aged slot)) ≡ may_ask (with_generation generation slot)
aged_may generation None = refl
aged_may generation (Some connection) = aged_so connection (connection.generation == generation)

all_aged_may : (table : ConnectionTable) (conn : Conn) → may_at (all_aged table) conn ≡ may_at table conn
all_aged_may table conn =
    ap (λ slot. may_ask (with_generation conn.generation slot)) (get_or-map aged table.slots conn.key None)
    ∙ aged_may conn.generation (open_at table conn.key)

-- ---- those that waited

waits_then : (test : Wait → Bool) (waits : Option Wait) → waits_so test waits ≡ true → is_none waits ≡ false
waits_then test None waits = absurd (true≢false (sym waits))
waits_then test (Some wait) waits = refl

-- a connection that waits is taken no request of
waits_there : (generation : ℕ) (connection : Connection) (is : Bool) → is_none connection.waits ≡ false → may_ask (cond is (Some connection) None) ≡ false
waits_there generation connection true waits = waits
waits_there generation connection false waits = refl

record Waited (slots : List (Option Connection)) (key : ℕ) (conn : Conn) : Type 0 where
  place : ℕ
  key_is : conn.key ≡ key + place
  waits : may_ask (with_generation conn.generation (get_or slots place None)) ≡ false

behind : (slot : Option Connection) (slots : List (Option Connection)) (key : ℕ) (conn : Conn) → Waited slots (key + 1) conn → Waited (slot ∷ slots) key conn
behind slot slots key conn waited = record {
  place = suc waited.place;
  key_is = omega (arith, waited.key_is);
  waits = waited.waits;
}

waited_from : (key : ℕ) (test : Wait → Bool) (slots : List (Option Connection)) (conn : Conn) → Contains (waiting_from key test slots) conn → Waited slots key conn
waited_from key test [] conn among = absurd (omega (arith, among.1))
waited_from key test (None ∷ slots) conn among = behind None slots key conn (waited_from (key + 1) test slots conn among)
waited_from key test (Some connection ∷ slots) conn among =
    elim (cases_Bool (waits_so test connection.waits)) [
      | inl waits ↦ by_place (λ place below is. waited_from (key + 1) test slots conn (place, below, is)) (subst (λ (conns : List Conn). Contains conns conn) (cond-true (waits_so test connection.waits) (here ∷ others) others waits) among) waits
      | inr quiet ↦ behind (Some connection) slots key conn (waited_from (key + 1) test slots conn (subst (λ (conns : List Conn). Contains conns conn) (cond-false (waits_so test connection.waits) (here ∷ others) others quiet) among))
    ]
  where
    here : Conn
    here = record { key = key; generation = connection.generation }

    others : List Conn
    others = waiting_from (key + 1) test slots

    by_place : ((place : ℕ) → place < length others → get_or others place conn ≡ conn → Waited slots (key + 1) conn)
        → Contains (here ∷ others) conn → waits_so test connection.waits ≡ true → Waited (Some connection ∷ slots) key conn
    by_place later (zero, below, is) waits = record {
      place = 0;
      key_is = omega (arith, ap (λ (c : Conn). c.key) (sym is));
      waits = waits_there conn.generation connection (connection.generation == conn.generation) (waits_then test connection.waits waits);
    }
    by_place later (suc place, below, is) waits = behind (Some connection) slots key conn (later place (omega (arith, below)) is)

pub waited : (table : ConnectionTable) (test : Wait → Bool) (conn : Conn) → Contains (waiting table test) conn → may_at table conn ≡ false
waited table test conn among =
    let found : Waited table.slots 0 conn = waited_from 0 test table.slots conn among in
    let same : conn.key ≡ found.place = omega (arith, found.key_is) in
    ap (λ key. may_ask (with_generation conn.generation (open_at table key))) same ∙ found.waits

-- ---- a connection that is changed

-- where it waits as it did, each may ask where it might
module _ (table : ConnectionTable) (conn : Conn) (change : Connection → Connection) (same_generation : (connection : Connection) → (change connection).generation ≡ connection.generation)
    (same_waits : (connection : Connection) → is_none (change connection).waits ≡ is_none connection.waits) where
  changed_may : (other : Conn) → may_at (with_change table conn change) other ≡ may_at table other
  changed_may other =
      elim (cases_conn other conn) [
        | inr apart ↦ ap may_ask (unchanged_there table conn change same_generation other apart)
        | inl here ↦
            ap (may_at (with_change table conn change)) here ∙ ap may_ask (changed_here table conn change same_generation)
            ∙ by_found (connection_at table conn) ∙ sym (ap (may_at table) here)
      ]
    where
      by_found : (found : Option Connection) → may_ask (changed change found) ≡ may_ask found
      by_found None = refl
      by_found (Some connection) = same_waits connection

-- ---- connections that are opened and closed

opened_may : (old new : ConnectionTable) (conn : Conn) → Opens old new conn → (other : Conn) → may_at old other ≡ true → may_at new other ≡ true
opened_may old new conn opens other may =
    elim (cases_eq other.key conn.key) [
      | inl here ↦
          absurd (true≢false (sym may ∙ ap (λ key. may_ask (with_generation other.generation (open_at old key))) here
          ∙ ap (λ (slot : Option Connection). may_ask (with_generation other.generation slot)) opens.free))
      | inr elsewhere ↦ ap (λ slot. may_ask (with_generation other.generation slot)) (opens.others other.key elsewhere) ∙ may
    ]

pub newly_may : (old new : ConnectionTable) (conn : Conn) → Opens old new conn → may_at new conn ≡ true
newly_may old new conn opens =
    ap (λ (slot : Option Connection). may_ask (with_generation conn.generation slot)) opens.opened ∙ ap may_ask (is_with conn.generation (fresh conn.generation) refl)

closed_may : (old new : ConnectionTable) (conn : Conn) (connection : Connection) → connection_at old conn ≡ Some connection → Closes old new conn
    → (other : Conn) → other ≢ conn → may_at old other ≡ true → may_at new other ≡ true
closed_may old new conn connection open_there closes other apart may =
    elim (cases_eq other.key conn.key) [
      | inl here ↦
          let was = found_with conn.generation (open_at old conn.key) connection open_there in
          let differs : connection.generation ≢ other.generation = λ same. apart (same_conn other conn here (sym same ∙ was.1)) in
          absurd (true≢false (sym may ∙ ap (λ key. may_ask (with_generation other.generation (open_at old key))) here
          ∙ ap (λ (slot : Option Connection). may_ask (with_generation other.generation slot)) was.0
          ∙ ap may_ask (is_not_with other.generation connection differs)))
      | inr elsewhere ↦ ap (λ slot. may_ask (with_generation other.generation slot)) (closes.others other.key elsewhere) ∙ may
    ]

-- ---- requests

-- a reply came with the step
abbrev pub HasReply : Response → Type 0
HasReply (Replied answer) = ⊤
HasReply Nothing = ⊥
HasReply (Opened conn) = ⊥
HasReply Parked = ⊥

-- another connection asked, or the reply came
abbrev pub IsFree : Conn → Response → Conn → Type 0
IsFree conn response other = (other ≢ conn) ⊎ HasReply response

abbrev Keeps : Conn → NodeState → Outcome → Type 0
Keeps conn node outcome = (other : Conn) → IsFree conn outcome.response other → may_at node.connections other ≡ true → may_at outcome.state.connections other ≡ true

data_keeps : (node : NodeState) (conn : Conn) (numbered : Bool) (command : DataCommand) (why : Decision) → Keeps conn node (command_outcome node numbered command why)
data_keeps node conn numbered command Serve other free may = may
data_keeps node conn numbered command (ServeImport number) other free may = may
data_keeps node conn numbered command CrossSlot other free may = may
data_keeps node conn numbered command Down other free may = may
data_keeps node conn numbered command (TryAgain reason) other free may = may
data_keeps node conn numbered command (Ask slot to number) other free may = may
data_keeps node conn numbered command (Moved slot to) other free may = may

ending_keeps : (node : NodeState) (conn : Conn) (slot : ℕ) (verdict : NodeVerdict) → Keeps conn node (ending_outcome node slot verdict)
ending_keeps node conn slot (ending.Ends drained) other free may = may
ending_keeps node conn slot ending.UnknownNode other free may = may
ending_keeps node conn slot ending.OldMove other free may = may
ending_keeps node conn slot ending.NotDrained other free may = may
ending_keeps node conn slot ending.IsOwner other free may = may
ending_keeps node conn slot ending.NotYetOwner other free may = may

order_keeps : (node : NodeState) (conn : Conn) (slot : ℕ) (order : SlotOrder) (named number : Option ℕ) → Keeps conn node (order_outcome node slot order named number)
order_keeps node conn slot Importing named number other free may = may
order_keeps node conn slot Migrating named number other free may = may
order_keeps node conn slot Node named number other free may = ending_keeps node conn slot (ending_verdict node slot named number) other free may

parked_keeps : (node : NodeState) (conn : Conn) (id : CopyId) (ticks : ℕ) (other : Conn) → IsFree conn Parked other → may_at node.connections other ≡ true
    → may_at (with_change node.connections conn (waiting_for id ticks)) other ≡ true
parked_keeps node conn id ticks other (inl apart) may =
    ap may_ask (unchanged_there node.connections conn (waiting_for id ticks) (λ connection. refl) other apart) ∙ may
parked_keeps node conn id ticks other (inr replied) may = absurd replied

copy_keeps : (node : NodeState) (conn : Conn) (slot : ℕ) (keys : List (List ℕ)) (ticks : ℕ) (verdict : CopyVerdict) → Keeps conn node (copy_outcome node conn slot keys ticks verdict)
copy_keeps node conn slot keys ticks copies.CrossSlot other free may = may
copy_keeps node conn slot keys ticks copies.WrongTarget other free may = may
copy_keeps node conn slot keys ticks copies.NoKey other free may = may
copy_keeps node conn slot keys ticks copies.CopyOutstanding other free may = may
copy_keeps node conn slot keys ticks copies.Exhausted other free may = may
copy_keeps node conn slot keys ticks (copies.SendAgain to number copy) other free may = parked_keeps node conn (copy_id slot number copy) ticks other free may
copy_keeps node conn slot keys ticks (copies.Copies to number copy) other free may = parked_keeps node conn (copy_id slot number copy) ticks other free may

failover_keeps : (node : NodeState) (conn : Conn) (master : Option ℕ) → Keeps conn node (failover node master)
failover_keeps node conn None other free may = may
failover_keeps node conn (Some master) other free may = may

cluster_keeps : (node : NodeState) (conn : Conn) (command : ClusterCommand) → Keeps conn node (cluster_outcome node conn command)
cluster_keeps node conn (cluster.KeySlot key) other free may = may
cluster_keeps node conn cluster.MyId other free may = may
cluster_keeps node conn cluster.Slots other free may = may
cluster_keeps node conn (cluster.CountKeysInSlot slot) other free may = may
cluster_keeps node conn (cluster.GetKeysInSlot slot count) other free may = may
cluster_keeps node conn (cluster.SlotState slot) other free may = may
cluster_keeps node conn (cluster.SetSlot slot order id number) other free may = order_keeps node conn slot order (node_with_id node id) number other free may
cluster_keeps node conn cluster.Numbered other free may =
    changed_may node.connections conn (λ connection. record connection { numbered = true }) (λ connection. refl) (λ connection. refl) other ∙ may
cluster_keeps node conn cluster.Failover other free may = failover_keeps node conn (own_master node) other free may
cluster_keeps node conn (cluster.Asking number) other free may =
    changed_may node.connections conn (λ connection. record connection { asking = asking_for number }) (λ connection. refl) (λ connection. refl) other ∙ may
cluster_keeps node conn (cluster.Migrate host port keys timeout) other free may = copy_keeps node conn (first_slot keys) (those_there node.keyspace keys) timeout (copy_verdict_on node keys (node_at node host port)) other free may

command_keeps : (node : NodeState) (conn : Conn) (connection : Option Connection) (command : Result Command CommandFault) → Keeps conn node (by_command node conn connection command)
command_keeps node conn connection (Err fault) other free may = may
command_keeps node conn connection (Ok (Cluster command)) other free may = cluster_keeps node conn command other free may
command_keeps node conn connection (Ok (Data command)) other free may = data_keeps node conn (is_numbered connection) command (decision_on node command (asking_of connection)) other free may

request_keeps : (node : NodeState) (conn : Conn) (command : Result Command CommandFault) → Keeps conn node (request_outcome node conn command)
request_keeps node conn command other free may =
    command_keeps (using_up node conn) conn (connection_at node.connections conn) command other free
    (changed_may node.connections conn (λ connection. record connection { asking = No }) (λ connection. refl) (λ connection. refl) other ∙ may)

-- no request frees a connection
ending_frees : (node : NodeState) (slot : ℕ) (verdict : NodeVerdict) → (ending_outcome node slot verdict).released ≡ []
ending_frees node slot (ending.Ends drained) = refl
ending_frees node slot ending.UnknownNode = refl
ending_frees node slot ending.OldMove = refl
ending_frees node slot ending.NotDrained = refl
ending_frees node slot ending.IsOwner = refl
ending_frees node slot ending.NotYetOwner = refl

order_frees : (node : NodeState) (slot : ℕ) (order : SlotOrder) (named number : Option ℕ) → (order_outcome node slot order named number).released ≡ []
order_frees node slot Importing named number = refl
order_frees node slot Migrating named number = refl
order_frees node slot Node named number = ending_frees node slot (ending_verdict node slot named number)

copy_frees : (node : NodeState) (conn : Conn) (slot : ℕ) (keys : List (List ℕ)) (ticks : ℕ) (verdict : CopyVerdict) → (copy_outcome node conn slot keys ticks verdict).released ≡ []
copy_frees node conn slot keys ticks copies.CrossSlot = refl
copy_frees node conn slot keys ticks copies.WrongTarget = refl
copy_frees node conn slot keys ticks copies.NoKey = refl
copy_frees node conn slot keys ticks copies.CopyOutstanding = refl
copy_frees node conn slot keys ticks copies.Exhausted = refl
copy_frees node conn slot keys ticks (copies.SendAgain to number copy) = refl
copy_frees node conn slot keys ticks (copies.Copies to number copy) = refl

failover_frees : (node : NodeState) (master : Option ℕ) → (failover node master).released ≡ []
failover_frees node None = refl
failover_frees node (Some master) = refl

cluster_frees : (node : NodeState) (conn : Conn) (command : ClusterCommand) → (cluster_outcome node conn command).released ≡ []
cluster_frees node conn (cluster.KeySlot key) = refl
cluster_frees node conn cluster.MyId = refl
cluster_frees node conn cluster.Slots = refl
cluster_frees node conn (cluster.CountKeysInSlot slot) = refl
cluster_frees node conn (cluster.GetKeysInSlot slot count) = refl
cluster_frees node conn (cluster.SlotState slot) = refl
cluster_frees node conn (cluster.SetSlot slot order id number) = order_frees node slot order (node_with_id node id) number
cluster_frees node conn cluster.Numbered = refl
cluster_frees node conn cluster.Failover = failover_frees node (own_master node)
cluster_frees node conn (cluster.Asking number) = refl
cluster_frees node conn (cluster.Migrate host port keys timeout) = copy_frees node conn (first_slot keys) (those_there node.keyspace keys) timeout (copy_verdict_on node keys (node_at node host port))

data_frees : (node : NodeState) (numbered : Bool) (command : DataCommand) (why : Decision) → (command_outcome node numbered command why).released ≡ []
data_frees node numbered command Serve = refl
data_frees node numbered command (ServeImport number) = refl
data_frees node numbered command CrossSlot = refl
data_frees node numbered command Down = refl
data_frees node numbered command (TryAgain reason) = refl
data_frees node numbered command (Ask slot to number) = refl
data_frees node numbered command (Moved slot to) = refl

request_frees : (node : NodeState) (conn : Conn) (command : Result Command CommandFault) → (request_outcome node conn command).released ≡ []
request_frees node conn (Err fault) = refl
request_frees node conn (Ok (Cluster command)) = cluster_frees (using_up node conn) conn command
request_frees node conn (Ok (Data command)) = data_frees (using_up node conn) (is_numbered (connection_at node.connections conn)) command (decision_on (using_up node conn) command (asking_of (connection_at node.connections conn)))

-- ---- any event

-- the event takes no connection away: none that asks but gets no reply, and none that is closed
abbrev pub IsSpared : Event → Response → Conn → Type 0
IsSpared (Request conn words) response other = IsFree conn response other
IsSpared (Close conn) response other = other ≢ conn
IsSpared Open response other = ⊤
IsSpared (Deliver message) response other = ⊤
IsSpared Tick response other = ⊤

-- a connection that might ask still may, and those that are freed waited
pub record KeepsReady (event : Event) (old : NodeState) (outcome : Outcome) : Type 0 where
  pub ready : (other : Conn) → IsSpared event outcome.response other → may_at old.connections other ≡ true → may_at outcome.state.connections other ≡ true
  pub freed : (one : Release) → Contains outcome.released one → may_at old.connections one.conn ≡ false

none_freed : (old : NodeState) (releases : List Release) → releases ≡ [] → (one : Release) → Contains releases one → may_at old.connections one.conn ≡ false
none_freed old releases none one among = absurd (contains_nothing one (subst (λ (rs : List Release). Contains rs one) none among))

those_waited : (table : ConnectionTable) (test : Wait → Bool) (reply : Reply) (one : Release) → Contains (map (release reply) (waiting table test)) one → may_at table one.conn ≡ false
those_waited table test reply one among =
    let found = from_map (release reply) (waiting table test) one among in
    ap (may_at table) (ap (λ (r : Release). r.conn) (sym found.2)) ∙ waited table test found.0 found.1

-- the same connections, and none is freed
same_ready : (event : Event) (old : NodeState) (outcome : Outcome) → outcome.state.connections ≡ old.connections → outcome.released ≡ [] → KeepsReady event old outcome
same_ready event old outcome same none = record {
  ready = λ other spared may. ap (λ (table : ConnectionTable). may_at table other) same ∙ may;
  freed = none_freed old outcome.released none;
}

silent_ready : (event : Event) (old : NodeState) (outcome : Outcome) → outcome ≡ silent old → KeepsReady event old outcome
silent_ready event old outcome is = subst (KeepsReady event old) (sym is) (same_ready event old (silent old) refl refl)

acknowledged_ready : (event : Event) (old node : NodeState) (id : CopyId) (keys : Option (List (List ℕ))) → node.connections ≡ old.connections → KeepsReady event old (acknowledged node id keys)
acknowledged_ready event old node id None same = same_ready event old (silent node) same refl
acknowledged_ready event old node id (Some keys) same = record {
  ready = λ other spared may. all_freed_may node.connections _ other (ap (λ (table : ConnectionTable). may_at table other) same ∙ may);
  freed = λ one among. ap (λ (table : ConnectionTable). may_at table one.conn) (sym same) ∙ those_waited node.connections _ _ one among;
}

claimed_ready : (event : Event) (old node : NodeState) (table : List (Option SlotEntry)) → node.connections ≡ old.connections → KeepsReady event old (claimed_by node table)
claimed_ready event old node table same = record {
  ready = λ other spared may. all_freed_may node.connections _ other (ap (λ (conns : ConnectionTable). may_at conns other) same ∙ may);
  freed = λ one among. ap (λ (conns : ConnectionTable). may_at conns one.conn) (sym same) ∙ those_waited node.connections _ _ one among;
}

-- the same behind a write, and with another stream and keyspace
with_written_ready : (event : Event) (old : NodeState) (outcome : Outcome) (requests : Requests) (dropped : ℕ) → KeepsReady event old outcome → KeepsReady event old (with_written outcome requests dropped)
with_written_ready event old outcome [] dropped kept = kept
with_written_ready event old outcome (request ∷ requests) dropped kept = record { ready = kept.ready; freed = kept.freed }

quiet_ready : (event : Event) (old node : NodeState) → node.connections ≡ old.connections → KeepsReady event old (silent node)
quiet_ready event old node same = same_ready event old (silent node) same refl

-- what any message tells bears on no connection, and what is taken then
module _ (event : Event) (old : NodeState) (epoch : ℕ) (masters : List (Option ℕ)) (health : Health) (candidate : Candidate) (handover : Handover) where
  abbrev heard : NodeState
  heard = record old { current_epoch = epoch; masters = masters; health = health; candidate = candidate; handover = handover }

  elected_ready : (node : NodeState) → node.connections ≡ old.connections → (won : Option Elected) → KeepsReady event old (if_elected node won)
  elected_ready node same None = quiet_ready event old node same
  elected_ready node same (Some elected) = by_plan node.candidate.planned
    where
      by_master : (master : Option ℕ) → KeepsReady event old (promotion node elected.epoch master)
      by_master None = quiet_ready event old node same
      by_master (Some master) = same_ready event old (promotion node elected.epoch (Some master)) same refl

      handed : (master : Option ℕ) (told : Option Handing) → KeepsReady event old (handed_promotion node elected.epoch master told)
      handed None told = quiet_ready event old node same
      handed (Some master) None = quiet_ready event old node same
      handed (Some master) (Some handing) = by_place (is_at_end node.stream (Some handing))
        where
          by_place : (b : Bool) → KeepsReady event old (cond b (promotion_to node master elected.epoch true (table_handed node handing.slots elected.epoch)) (silent node))
          by_place true = same_ready event old (promotion_to node master elected.epoch true (table_handed node handing.slots elected.epoch)) same refl
          by_place false = quiet_ready event old node same

      by_plan : (planned : Bool) → KeepsReady event old (cond planned (handed_promotion node elected.epoch (own_master node) node.handover.note) (promotion node elected.epoch (own_master node)))
      by_plan true = handed (own_master node) node.handover.note
      by_plan false = by_master (own_master node)

  pause_ready : (from : ℕ) (b : Bool) → KeepsReady event old (cond b (handing_over heard from) (silent heard))
  pause_ready from true = same_ready event old (handing_over heard from) refl refl
  pause_ready from false = quiet_ready event old heard refl

  noting_ready : (handing : Handing) (b : Bool) → KeepsReady event old (silent (cond b (record heard { handover = noting handover handing }) heard))
  noting_ready handing true = quiet_ready event old (record heard { handover = noting handover handing }) refl
  noting_ready handing false = quiet_ready event old heard refl

  taken_so_ready : (from : ℕ) (choice : Choice) (body : Body) → KeepsReady event old (taken_so heard from choice body)
  taken_so_ready from choice (Slots (Copy id pairs)) = same_ready event old (arrival heard from id pairs) refl refl
  taken_so_ready from choice (Slots (Ack id)) = acknowledged_ready event old heard id (acknowledged_keys (move_of old.moves id.slot) from id.number id.copy) refl
  taken_so_ready from choice (Slots (Drained slot number drained)) = same_ready event old (noted heard from slot number drained) refl refl
  taken_so_ready from choice (Slots (Claim runs replaced)) = by_own (from == old.number)
    where
      by_own : (own : Bool) → KeepsReady event old (cond own (silent heard) (claimed_by heard (merged old.table runs from)))
      by_own true = same_ready event old (silent heard) refl refl
      by_own false = claimed_ready event old heard (merged old.table runs from) refl
  taken_so_ready from choice (Report suspects) = quiet_ready event old heard refl
  taken_so_ready from choice (Election (Requested request)) = same_ready event old (asked_for_vote heard (request_of from request)) refl refl
  taken_so_ready from choice (Election (Grant granted)) = elected_ready _ refl (elected candidate (members_of heard) from granted)
  taken_so_ready from choice (Stream (Sync sync)) = synced_is (KeepsReady event old) heard from sync (quiet_ready event old heard refl) (same_ready event old _ refl refl)
  taken_so_ready from choice (Stream (Piece piece)) =
      pieced_keeps (λ (node : NodeState). KeepsReady event old (silent node)) heard (λ stream keyspace. quiet_ready event old _ refl) from piece choice.follower
  taken_so_ready from choice (Stream (Snapshot snapshot)) =
      restored_keeps (λ (node : NodeState). KeepsReady event old (silent node)) heard (λ stream keyspace. quiet_ready event old _ refl) from snapshot
  taken_so_ready from choice (Election (Pause stream)) = pause_ready from (may_pause heard from stream)
  taken_so_ready from choice (Election (Paused handing)) = noting_ready handing (is_replica heard && is_same handing.stream heard.stream.held.id)

  taken_ready : (from : ℕ) (choice : Choice) (body : Body) → KeepsReady event old (taken heard from choice body)
  taken_ready from choice body = with_written_ready event old (taken_so heard from choice body) (written_by_message heard from body) choice.dropped (taken_so_ready from choice body)

delivered_ready : (old : NodeState) (message : Message) (choice : Choice) → KeepsReady (Deliver message) old (delivered old message choice)
delivered_ready old message choice = by_node (message.to == old.number)
  where
    by_node : (here : Bool) → KeepsReady (Deliver message) old (cond here (taken (ready old message) message.from choice message.body) (silent old))
    by_node true =
        ready_keeps (λ (node : NodeState). KeepsReady (Deliver message) old (taken node message.from choice message.body)) old message
        (λ epoch masters health candidate handover as_before goes. taken_ready (Deliver message) old epoch masters health candidate handover message.from choice message.body)
    by_node false = same_ready (Deliver message) old (silent old) refl refl

tick_ready : (old : NodeState) → KeepsReady Tick old (tick old)
tick_ready old = record {
  ready = λ other spared may.
      let aged = a_tick_older (slots_tick old).state in
      in_election_keeps (λ (node : NodeState). may_at node.connections other ≡ true) aged (due_epoch aged)
      (λ current candidate handover. all_aged_may (all_freed old.connections is_over) other ∙ all_freed_may old.connections is_over other may);
  freed = λ one among. those_waited old.connections is_over _ one among;
}

opening_ready : (old : NodeState) (outcome : Outcome) → IsOpening old outcome → KeepsReady Open old outcome
opening_ready old outcome may = record {
  ready = λ other spared was. opened_may old.connections outcome.state.connections may.conn may.opens other was;
  freed = none_freed old outcome.released (ap (λ (o : Outcome). o.released) may.comes_to);
}

closing_ready : (old : NodeState) (conn : Conn) (outcome : Outcome) → MatchBool (is_some (connection_at old.connections conn)) (IsClosing old conn outcome) (outcome ≡ silent old) → KeepsReady (Close conn) old outcome
closing_ready old conn outcome = by_found (connection_at old.connections conn) refl
  where
    by_found : (found : Option Connection) → connection_at old.connections conn ≡ found → MatchBool (is_some found) (IsClosing old conn outcome) (outcome ≡ silent old) → KeepsReady (Close conn) old outcome
    by_found (Some connection) is may = record {
      ready = λ other spared was. closed_may old.connections outcome.state.connections conn connection is may.closes other spared was;
      freed = none_freed old outcome.released (ap (λ (o : Outcome). o.released) may.comes_to);
    }
    by_found None is may = silent_ready (Close conn) old outcome may

answering_ready : (old : NodeState) (conn : Conn) (words : List (List ℕ)) (outcome : Outcome) (asks : Bool) → MatchBool asks (IsAnswering old conn words outcome) (outcome ≡ silent old) → KeepsReady (Request conn words) old outcome
answering_ready old conn words outcome false may = silent_ready (Request conn words) old outcome may
answering_ready old conn words outcome true may =
    subst (KeepsReady (Request conn words) old) (sym may.comes_to)
    (with_written_ready (Request conn words) old (request_outcome old conn (command_of words)) (written old conn words) may.dropped
    (record {
      ready = λ other spared was. request_keeps old conn (command_of words) other spared was;
      freed = none_freed old (request_outcome old conn (command_of words)).released (request_frees old conn (command_of words));
    }))

event_ready : (old : NodeState) (event : Event) (outcome : Outcome) → MayCome old event outcome → KeepsReady event old outcome
event_ready old Open outcome may = opening_ready old outcome may
event_ready old (Close conn) outcome may = closing_ready old conn outcome may
event_ready old (Request conn words) outcome may = answering_ready old conn words outcome (may_ask (connection_at old.connections conn)) may
event_ready old (Deliver message) outcome may = subst (KeepsReady (Deliver message) old) (sym may.comes_to) (delivered_ready old message may.choice)
event_ready old Tick outcome may = subst (KeepsReady Tick old) (sym may.comes_to) (tick_ready old)

-- a step of a node: what may ask still may, unless the step takes it away, and those that are freed waited
pub record StepKeepsReady (event : Event) (old : NodeState) (outputs : Outputs) (new : NodeState) : Type 0 where
  pub ready : (other : Conn) → IsSpared event outputs.response other → may_at old.connections other ≡ true → may_at new.connections other ≡ true
  pub freed : (one : Release) → Contains outputs.released one → may_at old.connections one.conn ≡ false

pub step_ready : (ticket : ℕ) (old new : NodeState) (event : Event) (outputs : Outputs) → NodeStep ticket old event outputs new → StepKeepsReady event old outputs new
step_ready ticket old new event outputs step =
    let kept : KeepsReady event old step.outcome = event_ready old event step.outcome step.may_come in
    record {
      ready = λ other spared may.
          ap (λ (node : NodeState). may_at node.connections other) step.state
          ∙ kept.ready other (subst (λ (response : Response). IsSpared event response other) (ap (λ (o : Outputs). o.response) step.outputs_are) spared) may;
      freed = λ one among. kept.freed one (subst (λ (releases : List Release). Contains releases one) (ap (λ (o : Outputs). o.released) step.outputs_are) among);
    }
