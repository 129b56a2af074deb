-- A script that a cluster plays.
use Rattle.std.specs.Prelude.{◌≡◌, ℕ, List}
use Rattle.std.specs.List.{flat_map}
use Rattle.cluster_config.specs.Config.{ClusterConfig}
use Rattle.promoted_prefix.specs.Law.{PromotionsGoOn}
use Rattle.world_run.specs.Executed.{AreOfOneKeyspace, executed}
use Rattle.world_run.specs.Law.{HasOneMasterAnEpoch}
use Rattle.world_run.specs.Promotions.{until_promotion}
use Rattle.world_nodes.specs.declared.output.Output.{Output}
use Rattle.world.specs.Plays.{PlaysAll}
use Rattle.world.specs.View.{SceneView, first_scene}
use Rattle.world.specs.declared.step.Step.{Step}
use Rattle.final_answers.specs.Law.{AreAnswered}
use Rattle.simulator.specs.Printing.{printed}

-- the cluster begins, the steps are played, and what came out of them is printed; the replies of what was executed up to the first
-- promotion that wasn't planned are those of one keyspace, no epoch has two masters, each promoted node begins with its prefix, and the answer to each call
-- says what became of its command
pub record Simulates (config : ClusterConfig) (steps : List Step) (text : List ℕ) : Type 0 where
  pub scene : SceneView
  pub outputs : List Output
  pub plays : PlaysAll (first_scene config) steps outputs scene
  pub prints : text ≡ flat_map printed outputs
  pub one_keyspace : AreOfOneKeyspace (executed (until_promotion scene.run.entries))
  pub one_master : HasOneMasterAnEpoch config.voters scene.run.entries
  pub promoted_prefix : PromotionsGoOn config scene.run.entries
  pub answers : AreAnswered config steps outputs scene
