use Rattle.std.proofs.Common.{◌≡◌, ◌++◌}
use Rattle.std.specs.Prelude.{map, take, drop, option_map}
use Rattle.election.specs.Failing.{without}
use Rattle.election.proofs.rows.all_without.Given as goal

abbrev pub invariant-loop-at : goal.invariant-loop-at
invariant-loop-at l = l.later ≡ map (option_map (without l.node)) (take l.at l.reports) ++ drop l.at l.reports
