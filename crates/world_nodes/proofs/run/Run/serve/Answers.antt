use Rattle.world_nodes.proofs.Going.{goes_further}
use Rattle.world_nodes.proofs.run.Run.serve.Goals as goal

pub returns-in_err-outputs-clause-goes_on : goal.returns-in_err-outputs-clause-goes_on
returns-in_err-outputs-clause-goes_on c = goes_further _ _ _ c.make.ensures.goes_on c.finish_beside.ensures.goes_on

pub returns-clause-goes_on : goal.returns-clause-goes_on
returns-clause-goes_on c = goes_further _ _ _ c.make.ensures.goes_on c.finish_beside.ensures.goes_on
