use Rattle.std.proofs.Common.{◌<◌, arith}
use Rattle.std.proofs.lemmas.List.FromFn.{fill_by_all}
use Rattle.std.specs.Prelude.{◌&&◌, false, length, nat_lt}
use Rattle.election.specs.Failing.{suspects}
use Rattle.election.proofs.health.Health.suspected.Goals as goal

pub returns : goal.returns
returns c =
    fill_by_all (λ k. nat_lt k (length c.args.members.now.masters) && suspects c.args.self.now c.args.members.now k)
    c.loop-number.row 16 false c.loop-number.invariant.0
    (λ k below. let passed : k < c.loop-number.number = omega arith in c.loop-number.invariant.1 k passed)
