use Rattle.audit.proofs.Merging as merging
use Rattle.audit.proofs.law.journals_are_a_run.Goals as goal

pub returns : goal.returns
returns c = merging.journals_are_a_run
