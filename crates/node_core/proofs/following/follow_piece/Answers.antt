use Rattle.node_core.proofs.FollowingLemmas.{piece_comes}
use Rattle.node_core.proofs.following.follow_piece.Goals as goal

pub returns-clause-taken : goal.returns-clause-taken
returns-clause-taken g c =
    piece_comes c.args.ticket c.args.node.now c.args.from c.plain.result.0 c.take_piece.new.node c.plain.ensures.outputs c.args.piece.now c.in_ok-take_piece.ensures.ok
