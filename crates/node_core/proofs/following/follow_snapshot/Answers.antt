use Rattle.node_core.proofs.FollowingLemmas.{snapshot_comes}
use Rattle.node_core.proofs.following.follow_snapshot.Goals as goal

pub returns-clause-taken : goal.returns-clause-taken
returns-clause-taken g c =
    snapshot_comes c.args.ticket c.args.node.now c.args.from c.plain.result.0 c.take_snapshot.new.node c.plain.ensures.outputs c.args.snapshot.now c.in_ok-take_snapshot.ensures.ok
