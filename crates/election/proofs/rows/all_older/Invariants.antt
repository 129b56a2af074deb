use Rattle.std.proofs.Common.{◌≡◌, ◌++◌}
use Rattle.std.specs.Prelude.{map, take, drop}
use Rattle.election.specs.Failing.{older}
use Rattle.election.proofs.rows.all_older.Given as goal

abbrev pub invariant-loop-at : goal.invariant-loop-at
invariant-loop-at l = l.later ≡ map (older) (take l.at l.ages) ++ drop l.at l.ages
