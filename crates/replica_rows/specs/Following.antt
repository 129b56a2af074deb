-- What becomes of a node that follows its master.
use Rattle.std.specs.Prelude.{◌≡◌, ℕ, true, List}
use Rattle.std.specs.FinMap as fin_map
use Rattle.node_step.specs.Replicas.{MayFollow, pieced, with_piece, follower_of, sync_answer, with_follower}
use Rattle.node_step.specs.Roles.{is_just}
use Rattle.node_step.specs.State.{NodeState, own_master}
use Rattle.bus.specs.Follower.{Follower}
use Rattle.bus.specs.Piece.{PieceView, verdict_on}
use Rattle.bus.specs.Snapshot.{restored}
use Rattle.bus.specs.Syncing.{answer_to}
use Rattle.bus.specs.declared.message.Body.{Body}
use Rattle.bus.specs.declared.snapshot.Snapshot.{Snapshot}
use Rattle.bus.specs.declared.sync.Sync.{Sync}

-- a piece was taken, or is none to be taken
pub record TakesOrNot (old : NodeState) (piece : PieceView) (new : NodeState) : Type 0 where
  pub follower : Follower
  pub may_follow : MayFollow old piece follower
  pub state : new ≡ with_piece old follower (verdict_on old.stream piece)

-- the same of a piece of that sender
pub record Follows (old : NodeState) (from : ℕ) (piece : PieceView) (new : NodeState) : Type 0 where
  pub follower : Follower
  pub may_follow : is_just (own_master old) from ≡ true → MayFollow old piece follower
  pub state : new ≡ (pieced old from piece follower).state

-- the node once it took a snapshot
abbrev pub with_snapshot : NodeState → Snapshot → NodeState
with_snapshot node snapshot = with_follower node (restored snapshot (follower_of node))

-- ---- what a replica is told

-- what it misses, by how much it has
abbrev pub answer_on : NodeState → ℕ → Sync → List (ℕ × Body)
answer_on node from sync = sync_answer node from (answer_to node.stream sync)

-- all that the node has
abbrev pub snapshot_of : NodeState → Snapshot
snapshot_of node = record { stream = node.stream.held.id; offset = node.stream.offset; pairs = fin_map.entries node.keyspace }
