use Rattle.std.proofs.Common.{rules}
use Rattle.redirection.proofs.Parts.{slot_or_none}
use Rattle.redirection.proofs.redirection.slot_in.Goals as goal

pub returns-clause-none : goal.returns-clause-none
returns-clause-none c = search (rules, slot_or_none)
