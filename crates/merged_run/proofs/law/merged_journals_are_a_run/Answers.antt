use Rattle.merged_run.proofs.Merging as merging
use Rattle.merged_run.proofs.law.merged_journals_are_a_run.Goals as goal

pub returns : goal.returns
returns c = merging.merged_is_run
