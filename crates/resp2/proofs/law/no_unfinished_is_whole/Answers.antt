use Rattle.resp2.proofs.Theorems.{no_unfinished_is_whole}
use Rattle.resp2.proofs.law.no_unfinished_is_whole.Goals as goal

pub returns : goal.returns
returns c = no_unfinished_is_whole
