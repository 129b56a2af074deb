use Rattle.std.proofs.Common.{rules}
use Rattle.link_ends.proofs.RuleLemmas.{by_both, joins}
use Rattle.link_ends.proofs.halves.compare.Goals as goal

pub absorb-requires-clause-rule : goal.absorb-requires-clause-rule
absorb-requires-clause-rule g c = joins _ _ _ _ (search rules) (search rules)

pub learn_as-requires-clause-rule : goal.learn_as-requires-clause-rule
learn_as-requires-clause-rule g c = by_both _ _ (search rules) (search rules)
