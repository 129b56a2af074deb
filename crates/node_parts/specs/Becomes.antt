-- What a change makes of a node.
use Rattle.std.specs.Prelude.{◌≡◌, ◌==◌, ℕ, not, List, Option, Some, None, slice_set}
use Rattle.std.specs.FinMap as fin_map
use Rattle.std.specs.List.{list_any}
use Rattle.bus.specs.declared.bodies.Handing.{Handing}
use Rattle.connections.specs.Connections.{all_freed}
use Rattle.connections.specs.declared.conn.Conn.{Conn}
use Rattle.connections.specs.declared.conn.Connection.{Connection}
use Rattle.connections.specs.declared.conn.Wait.{Wait}
use Rattle.key_slot.specs.Slot.{hash_slot}
use Rattle.keyspace.specs.Plan.{committed}
use Rattle.keyspace.specs.declared.plans.Plan.{Plan}
use Rattle.keyspace.specs.Keyspace.{Keyspace}
use Rattle.migrate.specs.Acknowledging.{after_ack, frozen_keys}
use Rattle.migrate.specs.Arriving.{counted}
use Rattle.migrate.specs.Losing.{after_loss}
use Rattle.migrate.specs.Sending.{frozen}
use Rattle.node_parts.specs.Begins.{CanBegin}
use Rattle.node_parts.specs.declared.change.Change.{Change}
use Rattle.node_parts.specs.declared.change.Change.TheVariants.{Nothing, Asks, Allows, Numbers, Keys, Imports, Migrates, Ends, Parks, Freezes, Installs, Frees, Notes, Loses, Wishes, Pauses, Learns, Ages}
use Rattle.node_step.specs.Copies.{noted, parked, without_keys}
use Rattle.node_step.specs.Handovers.{noting, wishing}
use Rattle.node_step.specs.Orders.{with_moves}
use Rattle.node_step.specs.Requests.{at_connection, using_up, with_numbers}
use Rattle.node_step.specs.State.{NodeState}
use Rattle.node_step.specs.Ticks.{older}
use Rattle.slot_state.specs.Moves.{begun, ended, move_of}
use Rattle.slot_state.specs.declared.running.Move.{Move}
use Rattle.slot_state.specs.declared.running.Move.TheVariants.{Comes, Leaves}
use Rattle.slot_state.specs.declared.copy_id.CopyId.{CopyId}
use Rattle.slot_store.specs.InSlot.{IsCommittedInSlot}
use Rattle.slot_table.specs.Claims.{merged}
use Rattle.slot_table.specs.declared.runs.Run.{Run}
use Rattle.redirect.specs.declared.asked.Asking.{Asking}

-- the keys of a slot changed by a plan
pub record Commits (old : NodeState) (conn : Conn) (slot : ℕ) (plan : Plan) (new : NodeState) : Type 0 where
  pub keys : IsCommittedInSlot slot plan old.keyspace new.keyspace
  pub state : new ≡ record (using_up old conn) { keyspace = new.keyspace }

-- the keys that are in none of these slots
abbrev pub without_slots : Keyspace → List ℕ → Keyspace
without_slots keyspace slots = fin_map.retain_keys keyspace (λ key. not (list_any (λ slot. slot == hash_slot key) slots))

-- the node after another one took the slots of a claim, of which these were its own
abbrev pub losing : NodeState → List (Run ℕ) → ℕ → List ℕ → NodeState
losing node claim from lost = record node {
  table = merged node.table claim from;
  keyspace = without_slots node.keyspace lost;
  moves = after_loss node.moves (λ slot. list_any (λ other. other == slot) lost);
  connections = all_freed node.connections (λ wait. list_any (λ other. other == wait.id.slot) lost);
}

-- the node once an import is over, and the slot its own in that epoch
abbrev pub ending : NodeState → Conn → ℕ → ℕ → NodeState
ending node conn slot epoch =
    record (using_up node conn) { table = slice_set node.table slot (Some (record { epoch = epoch; owner = node.number })); moves = ended node.moves slot }

-- the node once a move of the slot began, which had none
pub record Starts (old : NodeState) (conn : Conn) (slot number : ℕ) (move : Move) (new : NodeState) : Type 0 where
  pub none : move_of old.moves slot ≡ None
  pub state : new ≡ with_moves (using_up old conn) (begun old.moves slot number move)

-- the node once a connection waits for the acknowledgement of a copy
abbrev pub waiting_so : NodeState → Conn → Wait → NodeState
waiting_so node conn wait = parked node conn wait.id wait.ticks

-- the node once the next request of the connection has this asking
abbrev pub allowing : NodeState → Conn → Asking → NodeState
allowing node conn asking = at_connection (using_up node conn) conn (λ (connection : Connection). record connection { asking = asking })

-- the node once the keys of a copy are frozen, for whose acknowledgement the connection is to wait
abbrev pub freezing : NodeState → Conn → Wait → List (List ℕ) → NodeState
freezing node conn wait keys = with_moves (using_up node conn) (frozen node.moves wait.id.slot wait.id.copy keys)

-- the node once no copy of the slot is outstanding: without the frozen keys, if there were some
abbrev pub freed : NodeState → CopyId → Option (List (List ℕ)) → NodeState
freed node id None = with_moves node (after_ack node.moves id.slot)
freed node id (Some keys) = without_keys node id keys

-- the node once it noted what its master hands over
abbrev pub learning : NodeState → Option Handing → NodeState
learning node None = node
learning node (Some handing) = record node { handover = noting node.handover handing }

-- the half of a change that takes no memory, and comes behind the other
abbrev pub Finishes : NodeState → Change → NodeState → Type 0
Finishes old Nothing new = new ≡ old
Finishes old (Asks conn) new = new ≡ using_up old conn
Finishes old (Allows conn asking) new = new ≡ allowing old conn asking
Finishes old (Numbers conn) new = new ≡ with_numbers (using_up old conn) conn
Finishes old (Keys conn slot) new = new ≡ using_up old conn
Finishes old (Imports conn slot from number) new = new ≡ using_up old conn
Finishes old (Migrates conn slot to number) new = new ≡ using_up old conn
Finishes old (Ends conn slot epoch) new = new ≡ ending old conn slot epoch
Finishes old (Parks conn wait) new = new ≡ waiting_so (using_up old conn) conn wait
Finishes old (Freezes conn keys wait) new = new ≡ waiting_so (freezing old conn wait keys) conn wait
Finishes old (Installs slot copy) new = new ≡ with_moves old (counted old.moves slot copy)
Finishes old (Frees id) new = new ≡ freed old id (frozen_keys (move_of old.moves id.slot))
Finishes old (Notes from slot number epoch) new = new ≡ (noted old from slot number epoch).state
Finishes old (Loses from claim lost) new = new ≡ losing old claim from lost.items
Finishes old (Wishes conn) new = new ≡ wishing (using_up old conn)
Finishes old (Pauses replica) new = new ≡ record old { paused = Some replica }
Finishes old (Learns handing) new = new ≡ learning old handing
Finishes old Ages new = new ≡ older old

-- what a change makes, with both halves; the plan is that of a change of keys
abbrev pub Becomes : NodeState → Plan → Change → NodeState → Type 0
Becomes old plan (Keys conn slot) new = Commits old conn slot plan new
Becomes old plan (Imports conn slot from number) new = Starts old conn slot number (Comes from number 0 None) new
Becomes old plan (Migrates conn slot to number) new = Starts old conn slot number (Leaves to number 0 None) new
Becomes old plan (Installs slot copy) new = new ≡ record old { keyspace = committed old.keyspace plan; moves = counted old.moves slot copy }
Becomes old plan change new = Finishes old change new

-- a change can be made where its first half can
abbrev pub CanBeMade : NodeState → Plan → Change → Type 0
CanBeMade old plan change = CanBegin old.keyspace old.moves plan change
