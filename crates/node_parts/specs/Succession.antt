-- A replica takes the place of its master, as it is drafted.
use Rattle.std.specs.Prelude.{ℕ, Bool, List, Option, Some, None, true}
use Rattle.bus.specs.declared.message.Body.{Body}
use Rattle.bus.specs.declared.bodies.Replaced.{Replaced}
use Rattle.node_parts.specs.declared.succession.Succession.{Succession}
use Rattle.node_step.specs.Outcome.{Outcome, silent}
use Rattle.node_step.specs.Promotion.{in_place_of, own_stream, promotion_to, table_handed}
use Rattle.node_step.specs.State.{NodeState}
use Rattle.node_step.specs.declared.promotion.Promotion.{Promotion}
use Rattle.slot_table.specs.declared.runs.Run.{Run}

-- the node in the place of its master, with the table that was made for that
abbrev pub succeeding : NodeState → Succession → NodeState
succeeding node succession = in_place_of node succession.master succession.epoch succession.table

abbrev pub succeeded_by : Option Succession → NodeState → NodeState
succeeded_by None node = node
succeeded_by (Some succession) node = succeeding node succession

-- whose place the node takes, and where its own stream begins
abbrev pub replacement : NodeState → ℕ → ℕ → Replaced
replacement node master epoch = record { master = master; stream = own_stream node epoch; offset = node.stream.offset }

-- what comes out: the stream that the node followed, and how much of it in whole writes
abbrev pub promotion_in : NodeState → ℕ → Bool → Promotion
promotion_in node epoch planned = record { stream = node.stream.held.id; offset = node.stream.offset; epoch = epoch; planned = planned }

abbrev pub promoted_by : NodeState → Option Succession → Option Promotion
promoted_by node None = None
promoted_by node (Some succession) = Some (promotion_in node succession.epoch succession.planned)

-- the outcome, with these messages
abbrev pub promoting : NodeState → List (ℕ × Body) → Succession → Outcome
promoting node bodies succession =
    record (silent (succeeding node succession)) { sent = bodies; promoted = Some (promotion_in node succession.epoch succession.planned) }

-- the outcome, with its claim for all others
abbrev pub promotion_of : NodeState → Succession → Outcome
promotion_of node succession = promotion_to node succession.master succession.epoch succession.planned succession.table

-- that of a handover, in which the master named these slots
abbrev pub planned_promotion : NodeState → ℕ → ℕ → List (Run ℕ) → Outcome
planned_promotion node master epoch slots = promotion_to node master epoch true (table_handed node slots epoch)
