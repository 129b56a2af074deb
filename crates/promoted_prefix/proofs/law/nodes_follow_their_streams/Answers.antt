use Rattle.promoted_prefix.proofs.Worlds as worlds
use Rattle.promoted_prefix.proofs.law.nodes_follow_their_streams.Goals as goal

pub returns : goal.returns
returns c = worlds.nodes_follow
