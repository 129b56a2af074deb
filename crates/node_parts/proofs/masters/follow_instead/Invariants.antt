use Rattle.std.proofs.Common.{◌≡◌, ◌++◌}
use Rattle.std.specs.Prelude.{map, take, drop}
use Rattle.node_step.specs.Roles.{instead}
use Rattle.node_parts.proofs.masters.follow_instead.Given as goal

abbrev pub invariant-loop-at : goal.invariant-loop-at
invariant-loop-at l = l.masters ≡ map (instead l.former l.next) (take l.at l.initial.masters) ++ drop l.at l.initial.masters
