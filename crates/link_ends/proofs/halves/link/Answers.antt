use Rattle.std.proofs.Common.{rules}
use Rattle.link_ends.proofs.RuleLemmas.{begins, splits}
use Rattle.link_ends.proofs.halves.link.Goals as goal

pub ruled-requires-clause-rule : goal.ruled-requires-clause-rule
ruled-requires-clause-rule g c = begins

pub another-receiver-requires-clause-rule : goal.another-receiver-requires-clause-rule
another-receiver-requires-clause-rule g c = splits _ _ (search rules) (search rules)
