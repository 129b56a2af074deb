use Rattle.world_run.specs.Promotions.{until_promotion}
use Rattle.merged_run.proofs.Beginning.{until_is_run}
use Rattle.merged_run.proofs.law.settled_runs_are_of_one_keyspace.Goals as goal

pub returns : goal.returns
returns c = λ config entries cluster_is run are.
    c.replies_are_those_of_one_keyspace.ensures config entries cluster_is run
    (c.settled_runs_need_no_asking.ensures config (until_promotion entries) (until_is_run config entries run) are)
