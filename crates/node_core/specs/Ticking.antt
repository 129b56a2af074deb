-- What comes of a tick, as a node says it that has grown older.
use Rattle.std.specs.Prelude.{ℕ, ◌++◌, List, Option}
use Rattle.bus.specs.declared.message.Body.{Body}
use Rattle.node_step.specs.Handovers.{asked_again, handed_again}
use Rattle.node_step.specs.Orders.{claim_of}
use Rattle.node_step.specs.Outcome.{Outcome}
use Rattle.node_step.specs.Replicas.{sync_to}
use Rattle.node_step.specs.State.{NodeState, own_master}
use Rattle.node_step.specs.Ticks.{signs, slots_tick}
use Rattle.node_step.specs.Voting.{requests_in}

-- what it tells others, besides what is sent again of moves
abbrev pub told_in : NodeState → Option ℕ → List (ℕ × Body)
told_in node epoch =
    signs node ++ sync_to node.stream (own_master node) ++ asked_again node.handover.asked node.stream.held.id (own_master node)
    ++ handed_again node node.paused (claim_of node) ++ requests_in node epoch (own_master node)

-- an election of it began in that epoch, if in any
abbrev pub ticked_in : NodeState → Option ℕ → Outcome
ticked_in node epoch = record (slots_tick node) { sent = (slots_tick node).sent ++ told_in node epoch }
