use Rattle.std.proofs.Common.{ap, ◌∙◌}
use Rattle.std.specs.FinMap as fin_map
use Rattle.keyspace.specs.Keyspace.{Keyspace}
use Rattle.step_making.proofs.RemovedKeys.{without-more}
use Rattle.step_making.proofs.finishing.remove_all.Goals as goal

pub loop-key-preserved : goal.loop-key-preserved
loop-key-preserved g c =
    c.remove.ensures ∙ ap (λ (keyspace : Keyspace). fin_map.remove keyspace c.key-item.result) c.loop-key.invariant
    ∙ without-more (g.S.Store.contents c.args.store.now) c.args.keys.now c.loop-key.key-index c.key-item.result c.loop-key-test.true c.key-item.is
