-- The beginning of a run.
use Rattle.std.proofs.Common.{Bool, true, false, cond, List, [], ◌∷◌, refl}
use Rattle.cluster_config.specs.Config.{ClusterConfig}
use Rattle.node_step.specs.State.{NodeState}
use Rattle.world_run.specs.Promotions.{ends_one_keyspace, promoted_in, until_promotion}
use Rattle.world_run.specs.Run.{Entry, Goes, IsRun, first_nodes}

-- these entries lead somewhere
pub record GoesSomewhere (past : List Entry) (old : List NodeState) (entries : List Entry) : Type 0 where
  pub last : List NodeState
  pub goes : Goes past old entries last

until_goes : (past : List Entry) (old : List NodeState) (entries : List Entry) (new : List NodeState) → Goes past old entries new → GoesSomewhere past old (until_promotion entries)
until_goes past old [] new goes = record { last = old; goes = refl }
until_goes past old (entry ∷ entries) new goes = by_end (ends_one_keyspace (promoted_in entry.deed)) (until_goes (entry ∷ past) goes.0 entries new goes.2)
  where
    by_end : (ends : Bool) → GoesSomewhere (entry ∷ past) goes.0 (until_promotion entries) → GoesSomewhere past old (cond ends [] (entry ∷ until_promotion entries))
    by_end true rest = record { last = old; goes = refl }
    by_end false rest = record { last = rest.last; goes = (goes.0, goes.1, rest.goes) }

-- the entries up to the first unplanned promotion are a run
pub until_is_run : (config : ClusterConfig) (entries : List Entry) → IsRun config entries → IsRun config (until_promotion entries)
until_is_run config entries run =
    let until = until_goes [] (first_nodes config) entries run.last run.goes in
    record { last = until.last; goes = until.goes }
