use Rattle.std.proofs.Common.{rules}
use Rattle.link_ends.proofs.RuleLemmas.{by_receiver, receives}
use Rattle.link_ends.proofs.halves.Receiver.try_receive.Goals as goal

pub pop_as-requires-clause-rule : goal.pop_as-requires-clause-rule
pop_as-requires-clause-rule g c = (receives _ _ (search rules), by_receiver _ _ (search rules))
