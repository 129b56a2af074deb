use Rattle.std.specs.Prelude.{None, option_map}
use Rattle.election.specs.Failing.{without}
use Rattle.election.proofs.RowLemmas.{one_more_mapped}
use Rattle.election.proofs.rows.all_without.Goals as goal

pub loop-at-preserved : goal.loop-at-preserved
loop-at-preserved c = rw c.report_without.ensures (rw c.loop-at.invariant (one_more_mapped (option_map (without c.args.node)) c.args.reports c.loop-at.at None))
