use Rattle.std.specs.Prelude.{None, option_map}
use Rattle.election.specs.Failing.{older_report}
use Rattle.election.proofs.RowLemmas.{one_more_mapped}
use Rattle.election.proofs.rows.all_reports_older.Goals as goal

pub loop-at-preserved : goal.loop-at-preserved
loop-at-preserved c = rw c.report_older.ensures (rw c.loop-at.invariant (one_more_mapped (option_map older_report) c.args.reports c.loop-at.at None))
