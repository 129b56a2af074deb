use Rattle.std.proofs.Common.{ap}
use Rattle.hash.specs.declared.count.Count.{Count}
use Rattle.hash.proofs.KeptLemmas.{kept_sized}
use Rattle.hash.proofs.packed.Packed.size.Goals as goal

pub returns : goal.returns
returns c = kept_sized c.self.inside.block c.args.self.now c.self.invariant c.self.view_is c.count.result.size (ap (λ (count : Count). count.size) c.count.ensures)
