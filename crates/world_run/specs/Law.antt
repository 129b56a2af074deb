-- The laws of the cluster: its replies are those of one keyspace (ours: the Redis Cluster specification has no such law), and no epoch has
-- two masters (Redis Cluster specification, "Masters reply to replica vote request": a master votes once an epoch).
use Rattle.std.specs.Prelude.{◌≡◌, ◌≢◌, ℕ, true, List, [], Contains}
use Rattle.std.specs.List.{AllPairs}
use Rattle.cluster_config.specs.Config.{ClusterConfig, IsCluster}
use Rattle.world_run.specs.Ballots.{is_elected, was_cast}
use Rattle.world_run.specs.Executed.{AreOfOneKeyspace, KeepsAsking, executed}
use Rattle.world_run.specs.Promotions.{Promoted, promotions, until_promotion}
use Rattle.world_run.specs.Run.{Entry, IsRun, sent_by}

-- whatever the orders that move slots, and however messages are late, repeated or lost: in each run in which clients keep to
-- the asking rule up to the first unplanned promotion, the replies of the commands that were executed up to there are those of one keyspace
-- executing them in their order
abbrev pub SingleKeyspace : Type 0
SingleKeyspace = (config : ClusterConfig) (entries : List Entry) → IsCluster config → IsRun config entries → KeepsAsking [] (until_promotion entries)
    → AreOfOneKeyspace (executed (until_promotion entries))

-- no voter votes for two nodes in one epoch; no epoch elects two nodes; each promoted node was elected in its epoch; no two promotions
-- are of one epoch
pub record HasOneMasterAnEpoch (voters : List ℕ) (entries : List Entry) : Type 0 where
  pub votes : (voter epoch candidate other : ℕ) → was_cast (sent_by entries) voter epoch candidate ≡ true → was_cast (sent_by entries) voter epoch other ≡ true → candidate ≡ other
  pub elects : (epoch candidate other : ℕ) → is_elected voters (sent_by entries) epoch candidate ≡ true → is_elected voters (sent_by entries) epoch other ≡ true → candidate ≡ other
  pub elected : (promoted : Promoted) → Contains (promotions entries) promoted → is_elected voters (sent_by entries) promoted.promotion.epoch promoted.node ≡ true
  pub apart : AllPairs (λ (promoted next : Promoted). promoted.promotion.epoch ≢ next.promotion.epoch) (promotions entries)

-- that is so in each run
abbrev pub OneMasterAnEpoch : Type 0
OneMasterAnEpoch = (config : ClusterConfig) (entries : List Entry) → IsRun config entries → HasOneMasterAnEpoch config.voters entries
