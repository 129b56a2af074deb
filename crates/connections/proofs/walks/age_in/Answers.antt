use Rattle.std.proofs.Common.{arith, ◌∙◌}
use Rattle.connections.specs.Connections.{aged}
use Rattle.connections.proofs.Steps.{changed_all, changed_more}
use Rattle.connections.proofs.walks.age_in.Goals as goal

pub loop-key-preserved : goal.loop-key-preserved
loop-key-preserved c = changed_more aged _ _ _ _ c.loop-key.invariant c.age_at.ensures

pub returns : goal.returns
returns c = c.loop-key.invariant ∙ changed_all aged c.loop-key.key c.args.places.now.slots (omega arith)
