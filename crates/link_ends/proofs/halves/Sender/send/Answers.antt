use Rattle.std.proofs.Common.{rules}
use Rattle.link_ends.proofs.RuleLemmas.{by_sender, sends}
use Rattle.link_ends.proofs.halves.Sender.send.Goals as goal

pub push_as-requires-clause-rule : goal.push_as-requires-clause-rule
push_as-requires-clause-rule g c = (sends _ _ _ _ (search rules), by_sender _ _ (search rules))
