use Rattle.std.proofs.Common.{rules}
use Rattle.link_ends.proofs.RuleLemmas.{by_sender}
use Rattle.link_ends.proofs.halves.Sender.len.Goals as goal

pub len_as-requires-clause-rule : goal.len_as-requires-clause-rule
len_as-requires-clause-rule g c = by_sender _ _ (search rules)
