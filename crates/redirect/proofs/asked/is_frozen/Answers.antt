use Rattle.std.proofs.Common.{rules}
use Rattle.redirect.proofs.AskedLemmas.{any_of_mapped}
use Rattle.redirect.proofs.asked.is_frozen.Goals as goal

pub returns-in-Some : goal.returns-in-Some
returns-in-Some c = search (rules, any_of_mapped)
