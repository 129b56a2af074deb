-- Orders that give a slot to a node, as the parts of a node say it of themselves.
use Rattle.std.specs.Prelude.{◌≡◌, ℕ, true, Option, ◌<◌, ◌^◌, ◌∷◌, [], List, Some, false, slice_set, if◌then◌else◌}
use Rattle.connections.specs.declared.conn.Conn.{Conn}
use Rattle.slot_state.specs.declared.ending.NodeVerdict.{NodeVerdict}
use Rattle.slot_state.specs.declared.importing.ImportVerdict.{ImportVerdict}
use Rattle.slot_state.specs.declared.importing.ImportVerdict.TheVariants as importing
use Rattle.slot_state.specs.declared.migrating.MigrateVerdict.{MigrateVerdict}
use Rattle.slot_state.specs.declared.migrating.MigrateVerdict.TheVariants as migrating
use Rattle.slot_state.specs.Importing.{import_verdict}
use Rattle.slot_state.specs.Migrating.{after_migrate, migrate_verdict}
use Rattle.slot_state.specs.Moves.{last_move_of, move_of}
use Rattle.slot_state.specs.declared.order.Order.{Order}
use Rattle.node_parts.specs.declared.change.Change.{Change}
use Rattle.node_parts.specs.declared.change.Change.TheVariants.{Asks, Imports, Migrates}
use Rattle.node_parts.specs.Drafts.{Drafts}
use Rattle.node_parts.specs.declared.draft.Draft.{Draft}
use Rattle.node_step.specs.Orders.{ending_outcome, drained_at_start, ending_verdict, importing as import_outcome_of, migrating as migrate_outcome_of, new_epoch, with_moves}
use Rattle.node_step.specs.Requests.{has_epoch, has_order_number, order_outcome, using_up}
use Rattle.command_table.specs.declared.command.SlotOrder.{SlotOrder}
use Rattle.node_step.specs.State.{NodeState, standing}
use Rattle.node_step.specs.Outcome.{Outcome}
use Rattle.node_step.specs.Slots.{has_keys, slot_epoch}
use Rattle.bus.specs.declared.bodies.SlotsBody.TheVariants.{Drained}
use Rattle.bus.specs.declared.message.Body.{Body}
use Rattle.bus.specs.declared.message.Body.TheVariants.{Slots}
use Rattle.slot_table.specs.Runs.{runs_of}
use Rattle.slot_table.specs.Table.{claim_at}
use Rattle.slot_table.specs.declared.runs.Run.{Run}

-- the order was answered by the verdict on it
pub record Gives (old : NodeState) (conn : Conn) (slot : ℕ) (verdict : NodeVerdict) (draft : Draft) : Type 0 where
  pub epoch : has_epoch (using_up old conn) slot verdict ≡ true
  pub drafts : Drafts old (ending_outcome (using_up old conn) slot verdict) draft

-- the order to move a slot was obeyed or refused
pub record Obeys (old : NodeState) (conn : Conn) (slot : ℕ) (order : SlotOrder) (node number : Option ℕ) (draft : Draft) : Type 0 where
  pub has_number : has_order_number (using_up old conn) slot order node number ≡ true
  pub drafts : Drafts old (order_outcome (using_up old conn) slot order node number) draft

-- ---- what an order changes, by the verdict on it

abbrev pub import_change : Conn → ℕ → ImportVerdict → Change
import_change conn slot (importing.Begins from number) = Imports conn slot from number
import_change conn slot importing.UnknownNode = Asks conn
import_change conn slot importing.Already = Asks conn
import_change conn slot importing.HandingOver = Asks conn
import_change conn slot importing.Busy = Asks conn
import_change conn slot importing.AlreadyOwner = Asks conn
import_change conn slot importing.NotOwner = Asks conn
import_change conn slot importing.OldMove = Asks conn

abbrev pub migrate_change : Conn → ℕ → MigrateVerdict → Change
migrate_change conn slot (migrating.Begins to number) = Migrates conn slot to number
migrate_change conn slot migrating.UnknownNode = Asks conn
migrate_change conn slot migrating.Already = Asks conn
migrate_change conn slot migrating.HandingOver = Asks conn
migrate_change conn slot migrating.Busy = Asks conn
migrate_change conn slot migrating.NotOwner = Asks conn
migrate_change conn slot migrating.OldMove = Asks conn

-- ---- an order, with the slot, the node and the number that it names

-- one to begin a move of the slot, on a connection
abbrev pub import_on : NodeState → Conn → Order → Outcome
import_on node conn order = import_outcome_of (using_up node conn) order.slot order.node order.number

abbrev pub migration_on : NodeState → Conn → Order → Outcome
migration_on node conn order = migrate_outcome_of (using_up node conn) order.slot order.node order.number

-- the verdict on it
abbrev pub import_verdict_on : NodeState → Order → ImportVerdict
import_verdict_on node order =
    import_verdict (standing node order.slot) (move_of node.moves order.slot) (last_move_of node.moves order.slot) order.node order.number

abbrev pub migrate_verdict_on : NodeState → Order → MigrateVerdict
migrate_verdict_on node order =
    migrate_verdict (standing node order.slot) (move_of node.moves order.slot) (last_move_of node.moves order.slot) order.node order.number

-- one that gives the slot to the node was answered
abbrev pub GivesBy : NodeState → Conn → Order → Draft → Type 0
GivesBy old conn order draft = Gives old conn order.slot (ending_verdict old order.slot order.node order.number) draft

-- ---- the number that it takes

-- there is none for an order
abbrev pub NoOrderNumber : NodeState → SlotOrder → Order → Type 0
NoOrderNumber node order named = has_order_number node named.slot order named.node named.number ≡ false

-- no epoch for a slot that came
abbrev pub NoEpoch : NodeState → Order → Type 0
NoEpoch node order = has_epoch node order.slot (ending_verdict node order.slot order.node order.number) ≡ false

-- that is the epoch, and it is one
abbrev pub IsNewEpoch : NodeState → ℕ → ℕ → ℕ → Type 0
IsNewEpoch node slot drained epoch = (epoch ≡ new_epoch node slot drained) × (new_epoch node slot drained < 2 ^ 64)

-- ---- what others are told

-- that the slot is drained, if it is as its move begins
abbrev pub drained_by_order : NodeState → ℕ → MigrateVerdict → List (ℕ × Body)
drained_by_order node slot verdict = drained_at_start (with_moves node (after_migrate node.moves slot verdict)) slot verdict

-- that it is drained, in a move to that node
abbrev pub drained_to : NodeState → ℕ → ℕ → ℕ → List (ℕ × Body)
drained_to node slot to number = if has_keys node.keyspace slot then [] else (to, Slots (Drained slot number (slot_epoch node slot))) ∷ []

-- that it is the node's own, in that epoch
abbrev pub claim_with : NodeState → ℕ → ℕ → List (Run ℕ)
claim_with node slot epoch = runs_of (claim_at (slice_set node.table slot (Some (record { epoch = epoch; owner = node.number }))) node.number)
