use Rattle.world_nodes.proofs.Going.{goes_further}
use Rattle.world.proofs.client.Client.connect.Goals as goal

pub returns-in-Some-clause-goes_on : goal.returns-in-Some-clause-goes_on
returns-in-Some-clause-goes_on c = goes_further _ _ _ c.reach_node.ensures.goes_on c.tell.ensures.goes_on

pub returns-in-None-clause-goes_on : goal.returns-in-None-clause-goes_on
returns-in-None-clause-goes_on c = goes_further _ _ _ c.reach_node.ensures.goes_on c.tell-in-None.ensures.goes_on
