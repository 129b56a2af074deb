use Rattle.std.proofs.Common.{arith}
use Rattle.hash.proofs.HoleLemmas.{length-left}
use Rattle.hash.proofs.holed.Holed.len.Goals as goal

pub returns-clause-small : goal.returns-clause-small
returns-clause-small c =
    let fewer = length-left c.self.inside.map.entries c.self.inside.removed.keys in
    omega (arith, fewer, c.self.invariant, c.len.ensures.len, c.len.ensures.small)
