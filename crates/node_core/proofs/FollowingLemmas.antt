-- Messages by which a replica follows its master's stream.
use Rattle.std.proofs.Common.{◌≡◌, ℕ, refl, ap, arith}
use Rattle.bus.specs.Piece.{PieceView}
use Rattle.bus.specs.declared.bodies.StreamBody.TheVariants.{Piece, Snapshot}
use Rattle.bus.specs.declared.message.Body.TheVariants.{Stream}
use Rattle.bus.specs.declared.snapshot.Snapshot.{Snapshot as Whole}
use Rattle.node_core.specs.Comes.{MayBeTaken}
use Rattle.node_parts.specs.Drafts.{Comes}
use Rattle.node_step.specs.Outcome.{no_outputs, silent}
use Rattle.node_step.specs.Replicas.{follower_of, restored_by}
use Rattle.node_step.specs.State.{NodeState}
use Rattle.node_step.specs.declared.outputs.Outputs.{Outputs}
use Rattle.replica_rows.specs.Following.{Follows}

module _ (ticket : ℕ) (node : NodeState) (from : ℕ) (outputs : Outputs) (new : NodeState) (none : outputs ≡ no_outputs ticket) where
  -- a piece may make what it made, and nothing comes out
  pub piece_comes : (piece : PieceView) → Follows node from piece new → Comes ticket (MayBeTaken node from (Stream (Piece piece))) outputs new
  piece_comes piece follows = record {
    outcome = silent new;
    may = record {
      choice = record { follower = follows.follower; dropped = 0 };
      may_choose = record { follower = follows.may_follow; dropped = omega arith };
      comes_to = ap silent follows.state;
    };
    outputs_are = none;
    state = refl;
  }

  -- a snapshot is restored, and nothing comes out
  pub snapshot_comes : (snapshot : Whole) → new ≡ (restored_by node from snapshot).state → Comes ticket (MayBeTaken node from (Stream (Snapshot snapshot))) outputs new
  snapshot_comes snapshot is = record {
    outcome = silent new;
    may = record {
      choice = record { follower = follower_of node; dropped = 0 };
      may_choose = record { follower = tt; dropped = omega arith };
      comes_to = ap silent is;
    };
    outputs_are = none;
    state = refl;
  }
