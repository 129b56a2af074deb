use Rattle.node_core.proofs.TickLemmas.{tick_drafted}
use Rattle.node_core.proofs.ticks.draft_tick.Goals as goal

pub returns : goal.returns
returns g c = tick_drafted c.args.node.now c.args.epoch _ _ c.draft_releases.new.draft c.in_ok-released.ensures c.in_ok-bodies.ensures c.draft_releases.ensures
