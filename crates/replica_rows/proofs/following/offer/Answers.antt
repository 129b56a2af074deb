use Rattle.std.proofs.Common.{ap, subst}
use Rattle.bus.specs.Follower.{Follower}
use Rattle.bus.specs.Piece.{TakesPiece}
use Rattle.node_step.specs.Replicas.{follower_of, with_follower}
use Rattle.node_step.specs.State.{NodeState}
use Rattle.replica_rows.proofs.FollowingLemmas.{piece_taken}
use Rattle.replica_rows.proofs.following.offer.Goals as goal

pub returns-clause-ok : goal.returns-clause-ok
returns-clause-ok g c =
    let follower : Follower = record { stream = c.offer.new.self.stream; keyspace = g.S.Store.contents c.offer.new.store } in
    piece_taken c.args.node.now _ c.args.piece.now follower (ap (λ (node : NodeState). with_follower node follower) c.node.view_is)
    (subst (λ (node : NodeState). TakesPiece (follower_of node) c.args.piece.now follower) c.node.view_is c.in_default.ensures.taken)
