use Rattle.resp2.proofs.Theorems.{no_spelling_begins_another}
use Rattle.resp2.proofs.law.no_spelling_begins_another.Goals as goal

pub returns : goal.returns
returns c = no_spelling_begins_another
