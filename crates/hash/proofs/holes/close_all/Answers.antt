use Rattle.std.proofs.Common.{rules}
use Rattle.indexmap.proofs.CallerLemmas.{filter-RetainsPairs}
use Rattle.hash.proofs.holes.close_all.Goals as goal

pub returns-clause-pairs : goal.returns-clause-pairs
returns-clause-pairs c = filter-RetainsPairs _ _ _ (λ k v b w g call. search rules) _ _ c.retain.ensures.filtered
