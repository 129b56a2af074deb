-- What holds of a node whatever its stream is, and whatever keys it copies from its master, is kept by what it is told of streams.
use Rattle.std.proofs.Common.{ℕ, Bool, true, false, cond, [], ◌∷◌}
use Rattle.keyspace.specs.Keyspace.{Keyspace}
use Rattle.bus.specs.Follower.{Follower}
use Rattle.bus.specs.Piece.{PieceVerdict, PieceView, verdict_on}
use Rattle.bus.specs.Piece.PieceVerdict.{Gap, OtherStream, Takes}
use Rattle.bus.specs.Snapshot.{restored}
use Rattle.bus.specs.Stream.{StreamView}
use Rattle.bus.specs.Syncing.{answer_to}
use Rattle.bus.specs.declared.snapshot.Snapshot.{Snapshot}
use Rattle.bus.specs.declared.sync.Sync.{Sync}
use Rattle.node_step.specs.Outcome.{Outcome, silent}
use Rattle.node_step.specs.Replicas.{follower_of, pieced, restored_by, sync_answer, synced, with_follower, with_piece}
use Rattle.node_step.specs.Roles.{is_just}
use Rattle.node_step.specs.State.{NodeState, is_replica, own_master}
use Rattle.node_step.specs.Streams.{Requests, with_written}

-- what holds whatever the stream is holds behind a write
pub with_written_keeps : (P : NodeState → Type 0) (outcome : Outcome) (requests : Requests) (dropped : ℕ) → ((stream : StreamView) → P (record outcome.state { stream = stream }))
    → P (with_written outcome requests dropped).state
with_written_keeps P outcome [] dropped holds = holds outcome.state.stream
with_written_keeps P outcome (request ∷ requests) dropped holds = holds _

module _ (P : NodeState → Type 0) (node : NodeState) (holds : (stream : StreamView) (keyspace : Keyspace) → P (record node { stream = stream; keyspace = keyspace })) where
  by_verdict : (follower : Follower) (verdict : PieceVerdict) → P (with_piece node follower verdict)
  by_verdict follower Gap = holds node.stream node.keyspace
  by_verdict follower OtherStream = holds node.stream node.keyspace
  by_verdict follower (Takes place) = holds follower.stream follower.keyspace

  pub pieced_keeps : (from : ℕ) (piece : PieceView) (follower : Follower) → P (pieced node from piece follower).state
  pieced_keeps from piece follower = by_master (is_just (own_master node) from)
    where
      by_master : (own : Bool) → P (cond own (with_piece node follower (verdict_on node.stream piece)) node)
      by_master true = by_verdict follower (verdict_on node.stream piece)
      by_master false = holds node.stream node.keyspace

  pub restored_keeps : (from : ℕ) (snapshot : Snapshot) → P (restored_by node from snapshot).state
  restored_keeps from snapshot = by_master (is_just (own_master node) from)
    where
      by_master : (own : Bool) → P (cond own (with_follower node (restored snapshot (follower_of node))) node)
      by_master true = holds _ _
      by_master false = holds node.stream node.keyspace

-- an answer to a replica changes nothing of the node, answers no client and ends no wait
pub synced_is : (P : Outcome → Type 0) (node : NodeState) (from : ℕ) (sync : Sync) → P (silent node)
    → P (record (silent node) { sent = sync_answer node from (answer_to node.stream sync) }) → P (synced node from sync)
synced_is P node from sync quiet answers = by_role (is_replica node)
  where
    by_role : (replica : Bool) → P (cond replica (silent node) (record (silent node) { sent = sync_answer node from (answer_to node.stream sync) }))
    by_role true = quiet
    by_role false = answers
