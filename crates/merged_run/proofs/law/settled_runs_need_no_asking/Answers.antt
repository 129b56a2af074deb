use Rattle.merged_run.proofs.Settling as settling
use Rattle.merged_run.proofs.law.settled_runs_need_no_asking.Goals as goal

pub returns : goal.returns
returns c = settling.settled_runs_keep
