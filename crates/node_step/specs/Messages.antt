-- A message of another node arrives (Redis Cluster specification, "Cluster current epoch": a node takes a greater epoch over).
use Rattle.std.specs.Prelude.{◌≡◌, ℕ, ◌==◌, ⊤, true, [], max, if◌then◌else◌}
use Rattle.bus.specs.Follower.{Follower}
use Rattle.bus.specs.declared.bodies.ElectionBody.{ElectionBody}
use Rattle.bus.specs.declared.bodies.SlotsBody.{SlotsBody}
use Rattle.bus.specs.declared.bodies.StreamBody.{StreamBody}
use Rattle.bus.specs.declared.message.Body.{Body}
use Rattle.bus.specs.declared.bodies.ElectionBody.TheVariants.{Candidacy, Grant, Pause, Paused}
use Rattle.bus.specs.declared.bodies.SlotsBody.TheVariants.{Copy, Ack, Drained, Claim}
use Rattle.bus.specs.declared.bodies.StreamBody.TheVariants.{Sync, Piece, Snapshot}
use Rattle.bus.specs.declared.message.Body.TheVariants.{Slots, Stream, Election, Report}
use Rattle.bus.specs.declared.message.Message.{Message}
use Rattle.migrate.specs.Acknowledging.{acknowledged_keys}
use Rattle.migrate.specs.Arriving.{arrival_verdict}
use Rattle.slot_state.specs.Moves.{move_of}
use Rattle.node_step.specs.Claiming.{claim}
use Rattle.node_step.specs.Copies.{arrival, acknowledgement, keep_limits, noted}
use Rattle.node_step.specs.Failing.{hearing, judging}
use Rattle.node_step.specs.Handovers.{asked_to_pause, told_of_handing}
use Rattle.node_step.specs.Outcome.{Outcome, silent}
use Rattle.node_step.specs.Replicas.{MayFollow, pieced, restored_by, synced}
use Rattle.node_step.specs.Roles.{following, is_just, replaced_in}
use Rattle.node_step.specs.State.{NodeState, own_master}
use Rattle.node_step.specs.Streams.{MayGiveUp, Requests, with_written, written_by_ack, written_by_claim, written_by_copy}
use Rattle.node_step.specs.Voting.{asked_for_vote, request_of, voted_for}

-- the greater of the node's epoch and that of the message
abbrev pub knowing : NodeState → ℕ → NodeState
knowing node epoch = record node { current_epoch = max node.current_epoch epoch }

-- what any message tells, before it is taken: the epoch, that its sender lives, and whose place that took; and so whether the own master
-- is held failed
abbrev pub ready : NodeState → Message → NodeState
ready node message =
    judging (following (hearing (knowing node message.epoch) message.from message.body) message.from (replaced_in message.body))

-- what a step may choose as it takes a message: what a piece makes of the stream and the keyspace, and how many bytes in front of the
-- stream are kept no longer
pub record Choice : Type 0 where
  pub follower : Follower
  pub dropped : ℕ

-- a row a body: what is said of slots
abbrev pub taken_of_slots : NodeState → ℕ → SlotsBody → Outcome
taken_of_slots node from (Copy id pairs) = arrival node from id pairs
taken_of_slots node from (Ack id) = acknowledgement node from id
taken_of_slots node from (Drained slot number epoch) = noted node from slot number epoch
taken_of_slots node from (Claim slots replaced) = claim node from slots

-- of a stream; a piece makes what was chosen
abbrev pub taken_of_stream : NodeState → ℕ → Follower → StreamBody → Outcome
taken_of_stream node from follower (Sync sync) = synced node from sync
taken_of_stream node from follower (Piece piece) = pieced node from piece follower
taken_of_stream node from follower (Snapshot snapshot) = restored_by node from snapshot

-- and of an election or a handover
abbrev pub taken_of_election : NodeState → ℕ → ElectionBody → Outcome
taken_of_election node from (Candidacy request) = asked_for_vote node (request_of from request)
taken_of_election node from (Grant epoch) = voted_for node from epoch
taken_of_election node from (Pause stream) = asked_to_pause node from stream
taken_of_election node from (Paused handing) = told_of_handing node handing

-- all that a report tells was noted before
abbrev pub taken_so : NodeState → ℕ → Choice → Body → Outcome
taken_so node from choice (Slots body) = taken_of_slots node from body
taken_so node from choice (Stream body) = taken_of_stream node from choice.follower body
taken_so node from choice (Election body) = taken_of_election node from body
taken_so node from choice (Report suspects) = silent node

-- what is written by what is said of slots
abbrev pub written_by_slots : NodeState → ℕ → SlotsBody → Requests
written_by_slots node from (Copy id pairs) =
    written_by_copy node.keyspace pairs (arrival_verdict (move_of node.moves id.slot) from id.number id.copy (keep_limits pairs))
written_by_slots node from (Ack id) = written_by_ack (acknowledged_keys (move_of node.moves id.slot) from id.number id.copy)
written_by_slots node from (Drained slot number epoch) = []
written_by_slots node from (Claim slots replaced) = written_by_claim node from slots

-- no other message writes anything
abbrev pub written_by_message : NodeState → ℕ → Body → Requests
written_by_message node from (Slots body) = written_by_slots node from body
written_by_message node from other = []

abbrev pub taken : NodeState → ℕ → Choice → Body → Outcome
taken node from choice body = with_written (taken_so node from choice body) (written_by_message node from body) choice.dropped

-- what a piece of the own master makes
abbrev pub MayMake : NodeState → ℕ → Body → Follower → Type 0
MayMake node from (Stream (Piece piece)) follower = is_just (own_master node) from ≡ true → MayFollow node piece follower
MayMake node from body follower = ⊤

pub record MayChoose (node : NodeState) (from : ℕ) (body : Body) (choice : Choice) : Type 0 where
  pub follower : MayMake node from body choice.follower
  pub dropped : MayGiveUp node (written_by_message node from body) choice.dropped

-- a message for another node is not taken
abbrev pub delivered : NodeState → Message → Choice → Outcome
delivered node message choice =
    if message.to == node.number then taken (ready node message) message.from choice message.body else silent node
