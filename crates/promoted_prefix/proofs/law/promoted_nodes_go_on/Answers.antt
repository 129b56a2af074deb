use Rattle.promoted_prefix.proofs.Worlds as worlds
use Rattle.promoted_prefix.proofs.law.promoted_nodes_go_on.Goals as goal

pub returns : goal.returns
returns c = worlds.law
