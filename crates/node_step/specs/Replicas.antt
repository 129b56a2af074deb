-- What masters and replicas do by what they tell each other of streams (Redis documentation, "Redis replication"; the messages are
-- ours).
use Rattle.std.specs.Prelude.{◌≡◌, ℕ, List, [], ◌∷◌, Option, Some, None, if◌then◌else◌}
use Rattle.std.specs.FinMap as fin_map
use Rattle.bus.specs.Follower.{Follower}
use Rattle.bus.specs.Piece.{PieceVerdict, PieceView, TakesBehind, verdict_on}
use Rattle.bus.specs.Piece.PieceVerdict.{Gap, OtherStream, Takes}
use Rattle.bus.specs.Snapshot.{restored}
use Rattle.bus.specs.Stream.{StreamView, received}
use Rattle.bus.specs.Syncing.{answer_to}
use Rattle.bus.specs.declared.message.Body.{Body}
use Rattle.bus.specs.declared.bodies.StreamBody.TheVariants.{Piece, Snapshot, Sync}
use Rattle.bus.specs.declared.message.Body.TheVariants.{Stream}
use Rattle.bus.specs.declared.answer.SyncAnswer.{SyncAnswer}
use Rattle.bus.specs.declared.answer.SyncAnswer.TheVariants as answers
use Rattle.bus.specs.declared.snapshot.Snapshot.{Snapshot as Whole}
use Rattle.bus.specs.declared.sync.Sync.{Sync as Asked}
use Rattle.node_step.specs.Outcome.{Outcome, silent}
use Rattle.node_step.specs.Roles.{is_just}
use Rattle.node_step.specs.State.{NodeState, is_replica, own_master}

-- ---- a replica tells how far it is

-- at a tick, to its master
abbrev pub sync_to : StreamView → Option ℕ → List (ℕ × Body)
sync_to stream None = []
sync_to stream (Some master) = (master, Stream (Sync (record { stream = stream.held.id; received = received stream }))) ∷ []

abbrev pub sync_answer : NodeState → ℕ → SyncAnswer → List (ℕ × Body)
sync_answer node from answers.UpToDate = []
sync_answer node from (answers.Piece piece) = (from, Stream (Piece piece)) ∷ []
sync_answer node from answers.Snapshot =
    (from, Stream (Snapshot (record { stream = node.stream.held.id; offset = node.stream.offset; pairs = fin_map.entries node.keyspace }))) ∷ []

-- a master answers any node, a replica none
abbrev pub synced : NodeState → ℕ → Asked → Outcome
synced node from sync =
    if is_replica node then silent node else record (silent node) { sent = sync_answer node from (answer_to node.stream sync) }

-- ---- a replica is told what it misses

-- what it has of the stream, and its keyspace
abbrev pub follower_of : NodeState → Follower
follower_of node = record { stream = node.stream; keyspace = node.keyspace }

abbrev pub with_follower : NodeState → Follower → NodeState
with_follower node follower = record node { stream = follower.stream; keyspace = follower.keyspace }

-- what a piece makes of it is this, where it is taken
abbrev pub MayFollow : NodeState → PieceView → Follower → Type 0
MayFollow node piece follower = (place : ℕ) → verdict_on node.stream piece ≡ Takes place → TakesBehind place (follower_of node) piece follower

abbrev pub with_piece : NodeState → Follower → PieceVerdict → NodeState
with_piece node follower Gap = node
with_piece node follower OtherStream = node
with_piece node follower (Takes place) = with_follower node follower

-- pieces and snapshots count from the own master alone
abbrev pub pieced : NodeState → ℕ → PieceView → Follower → Outcome
pieced node from piece follower =
    silent (if is_just (own_master node) from then with_piece node follower (verdict_on node.stream piece) else node)

abbrev pub restored_by : NodeState → ℕ → Whole → Outcome
restored_by node from snapshot =
    silent (if is_just (own_master node) from then with_follower node (restored snapshot (follower_of node)) else node)
