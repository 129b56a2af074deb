-- A tick of a node's time (Redis Cluster specification, "Heartbeat and gossip packets"; that waits end by ticks, and that what was not
-- acknowledged is sent again, is ours).
use Rattle.std.specs.Prelude.{◌++◌, ℕ, List, [], map, Some, None}
use Rattle.std.specs.List.{flat_map}
use Rattle.std.specs.FinMap as fin_map
use Rattle.command_table.specs.declared.error_line.ErrorLine.TheVariants as line
use Rattle.slot_state.specs.declared.running.Move.{Move}
use Rattle.slot_state.specs.declared.running.Move.TheVariants.{Leaves, Comes}
use Rattle.bus.specs.declared.message.Body.{Body}
use Rattle.bus.specs.declared.bodies.SlotsBody.TheVariants.{Claim}
use Rattle.bus.specs.declared.message.Body.TheVariants.{Slots, Report}
use Rattle.connections.specs.Connections.{all_aged, all_freed, is_over, waiting}
use Rattle.election.specs.Failing.{suspected}
use Rattle.node_step.specs.Copies.{outstanding}
use Rattle.node_step.specs.Failing.{a_tick_older, members_of}
use Rattle.node_step.specs.Handovers.{asked_again, handed_again}
use Rattle.node_step.specs.Orders.{claim_of, others, to_all}
use Rattle.node_step.specs.Outcome.{Outcome, error, release, silent}
use Rattle.node_step.specs.Slots.{drained_if_empty}
use Rattle.node_step.specs.Replicas.{sync_to}
use Rattle.node_step.specs.State.{NodeState, own_master}
use Rattle.node_step.specs.Voting.{due_epoch, in_election, requests_in}

-- of a slot that leaves: the copy that is not acknowledged, or the word that no key is left
-- (else: the copy of b from node 0 to node 1 is lost; b stays frozen, and each command on it gets TRYAGAIN for ever)
abbrev pub sent_again : NodeState → ℕ × Move → List (ℕ × Body)
sent_again node (slot, Comes from number last drained) = []
sent_again node (slot, Leaves to number copies None) = drained_if_empty node slot
sent_again node (slot, Leaves to number copies (Some keys)) = outstanding node.keyspace slot (Some (Leaves to number copies (Some keys)))

-- those that waited as long as they wanted wait no more, and the others have a tick less
abbrev pub older : NodeState → NodeState
older node = record node { connections = all_aged (all_freed node.connections is_over) }

abbrev pub slots_tick : NodeState → Outcome
slots_tick node = record (silent (older node)) {
  released = map (release (error line.NotAcknowledged)) (waiting node.connections is_over);
  sent = flat_map (sent_again node) (fin_map.entries node.moves.running);
}

-- ---- what all nodes are told

-- which slots the node has, and whom it suspects: also nothing is a sign that it lives
abbrev pub signs : NodeState → List (ℕ × Body)
signs node = to_all (others node) (Slots (Claim (claim_of node) node.replaced)) ++ to_all (others node) (Report (suspected node.health (members_of node)))

-- behind that a replica tells its master how much of its stream it received, and may ask it to hand over; a master that does tells so; and
-- an election begins, if it is due
abbrev pub with_signs : Outcome → NodeState → Outcome
with_signs outcome node = record outcome {
  sent = outcome.sent ++ signs node ++ sync_to node.stream (own_master node) ++ asked_again node.handover.asked node.stream.held.id (own_master node)
      ++ handed_again node node.paused (claim_of node) ++ requests_in node (due_epoch node) (own_master node);
  state = in_election node (due_epoch node);
}

abbrev pub tick : NodeState → Outcome
tick node = with_signs (slots_tick node) (a_tick_older (slots_tick node).state)
