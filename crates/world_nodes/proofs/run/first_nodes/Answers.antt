use Rattle.std.proofs.Common.{arith}
use Rattle.std.proofs.lemmas.List.FromFn.{map-range_with_len_more}
use Rattle.node_step.specs.State.{first_state}
use Rattle.world_nodes.proofs.run.first_nodes.Goals as goal

pub loop-at-preserved : goal.loop-at-preserved
loop-at-preserved c =
    let more = map-range_with_len_more (first_state c.args.config.now) 0 c.loop-at.at c.loop-at.at (omega arith) in
    record { nodes = grind (arith, more); most = c.loop-at.invariant.most }
