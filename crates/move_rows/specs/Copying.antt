-- Copies of keys that are ordered, that arrive and that are acknowledged, as the parts of a node say it of themselves.
use Rattle.std.specs.Prelude.{◌≡◌, ℕ, false, List, Option, Some}
use Rattle.connections.specs.declared.conn.Conn.{Conn}
use Rattle.connections.specs.declared.conn.Wait.{Wait}
use Rattle.keyspace.specs.Keyspace.{Keyspace}
use Rattle.keyspace.specs.Plan.{committed}
use Rattle.keyspace.specs.declared.plans.Plan.{Plan}
use Rattle.keyspace.specs.declared.value.Value.{Value}
use Rattle.migrate.specs.Acknowledging.{acknowledged_keys}
use Rattle.migrate.specs.Arriving.{arrival_verdict}
use Rattle.migrate.specs.Sending.{copy_verdict, frozen}
use Rattle.migrate.specs.declared.sending.CopyVerdict.{CopyVerdict}
use Rattle.node_step.specs.Copies.{copy_outcome, copy_verdict_on, first_slot, keep_limits, sending, those_there, with_copied}
use Rattle.node_step.specs.Orders.{with_moves}
use Rattle.node_step.specs.Outcome.{Outcome}
use Rattle.node_step.specs.Requests.{has_copy_number, using_up}
use Rattle.node_step.specs.State.{NodeState}
use Rattle.node_step.specs.Streams.{Requests, written_by_ack, written_by_copy}
use Rattle.slot_state.specs.Moves.{Moves, move_of}
use Rattle.slot_state.specs.declared.copy_id.CopyId.{CopyId}
use Rattle.slot_state.specs.declared.running.Move.TheVariants.{Leaves}

-- ---- MIGRATE on a connection

-- by the verdict on it, with that target and so many ticks to wait
abbrev pub copy_ordered : NodeState → Conn → List (List ℕ) → Option ℕ → ℕ → Outcome
copy_ordered node conn named target ticks =
    copy_outcome (using_up node conn) conn (first_slot named) (those_there node.keyspace named) ticks (copy_verdict_on node named target)

-- the verdict on keys that are there, all in that slot
abbrev pub verdict_in : NodeState → ℕ → Option ℕ → List (List ℕ) → CopyVerdict
verdict_in node slot target keys = copy_verdict (move_of node.moves slot) target keys

abbrev pub copying : NodeState → Conn → ℕ → Option ℕ → List (List ℕ) → ℕ → Outcome
copying node conn slot target keys ticks = copy_outcome (using_up node conn) conn slot keys ticks (verdict_in node slot target keys)

-- the copy would have no number
abbrev pub NoNumber : CopyVerdict → Type 0
NoNumber verdict = has_copy_number verdict ≡ false

-- ---- the copy is sent, and the connection waits

abbrev pub sending_for : NodeState → Conn → Wait → Outcome
sending_for node conn wait = sending node conn wait.id wait.ticks

-- behind that the keys are frozen
abbrev pub sending_frozen : NodeState → Conn → Wait → List (List ℕ) → Outcome
sending_frozen node conn wait keys =
    sending (with_moves (using_up node conn) (frozen node.moves wait.id.slot wait.id.copy keys)) conn wait.id wait.ticks

-- as they are then, the slot leaves to that node
abbrev pub LeavesFrozen : Moves → ℕ → Wait → List (List ℕ) → Type 0
LeavesFrozen moves to wait keys =
    move_of (frozen moves wait.id.slot wait.id.copy keys) wait.id.slot ≡ Some (Leaves to wait.id.number wait.id.copy (Some keys))

-- ---- the copy arrives, and is acknowledged

-- the plan installs the keys
abbrev pub PlansPairs : List (List ℕ × Value) → Plan → Type 0
PlansPairs pairs plan = (keyspace : Keyspace) → committed keyspace plan ≡ with_copied keyspace pairs

-- what is written as it arrives
abbrev pub written_by_arrival : NodeState → ℕ → CopyId → List (List ℕ × Value) → Requests
written_by_arrival node from id pairs =
    written_by_copy node.keyspace pairs (arrival_verdict (move_of node.moves id.slot) from id.number id.copy (keep_limits pairs))

-- and as it is acknowledged
abbrev pub written_on_ack : NodeState → ℕ → CopyId → Requests
written_on_ack node from id = written_by_ack (acknowledged_keys (move_of node.moves id.slot) from id.number id.copy)
