use Rattle.std.proofs.Common.{rules}
use Rattle.hash.proofs.SizeLemmas.{none_sized}
use Rattle.hash.proofs.large.Large.new.Goals as goal

pub invariant_of-result : goal.invariant_of-result
invariant_of-result c = none_sized _ (search rules)
