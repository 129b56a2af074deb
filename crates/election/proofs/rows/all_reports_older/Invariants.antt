use Rattle.std.proofs.Common.{◌≡◌, ◌++◌}
use Rattle.std.specs.Prelude.{map, take, drop, option_map}
use Rattle.election.specs.Failing.{older_report}
use Rattle.election.proofs.rows.all_reports_older.Given as goal

abbrev pub invariant-loop-at : goal.invariant-loop-at
invariant-loop-at l = l.later ≡ map (option_map older_report) (take l.at l.reports) ++ drop l.at l.reports
