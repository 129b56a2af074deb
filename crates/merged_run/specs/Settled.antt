-- Runs in which no node takes up a slot (Redis Cluster specification, "Cluster live reconfiguration").
use Rattle.std.specs.Prelude.{◌≡◌, Bool, true, false, List, [], Option, Some, None, All}
use Rattle.cluster_config.specs.Config.{ClusterConfig, IsCluster}
use Rattle.slot_state.specs.declared.importing.ImportVerdict.TheVariants.{Begins}
use Rattle.node_step.specs.declared.response.Why.{Why}
use Rattle.node_step.specs.declared.response.Why.TheVariants.{Imports}
use Rattle.world_run.specs.Executed.{Answered, AreOfOneKeyspace, KeepsAsking, answered, executed}
use Rattle.world_run.specs.Promotions.{until_promotion}
use Rattle.world_run.specs.Run.{Entry, IsRun}

-- the order to import a slot is obeyed: it begins to come
abbrev pub begins_import : Why → Bool
begins_import (Imports (Begins from number)) = true
begins_import _ = false

abbrev pub is_import : Option Answered → Bool
is_import None = false
is_import (Some answered) = begins_import answered.answer.why

-- no such order is obeyed
abbrev pub AreSettled : List Entry → Type 0
AreSettled entries = All (λ (entry : Entry). is_import (answered entry.deed) ≡ false) entries

-- then clients keep to the asking rule, whatever they ask
abbrev pub SettledRunsNeedNoAsking : Type 0
SettledRunsNeedNoAsking = (config : ClusterConfig) (entries : List Entry) → IsRun config entries → AreSettled entries → KeepsAsking [] entries

-- where none is up to the first unplanned promotion, the replies up to there are those of one keyspace
abbrev pub SettledRunsAreOfOneKeyspace : Type 0
SettledRunsAreOfOneKeyspace = (config : ClusterConfig) (entries : List Entry) → IsCluster config → IsRun config entries → AreSettled (until_promotion entries)
    → AreOfOneKeyspace (executed (until_promotion entries))
