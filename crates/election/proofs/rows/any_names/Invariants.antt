use Rattle.std.proofs.Common.{◌≡◌}
use Rattle.std.specs.Prelude.{map, take, option_map}
use Rattle.election.specs.Failing.{without}
use Rattle.election.proofs.rows.any_names.Given as goal

abbrev pub invariant-loop-at : goal.invariant-loop-at
invariant-loop-at l = map (option_map (without l.node)) (take l.at l.reports) ≡ take l.at l.reports
