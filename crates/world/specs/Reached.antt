-- What holds of each world (ours).
use Rattle.std.specs.Prelude.{◌≡◌, false, List, []}
use Rattle.cluster_config.specs.Config.{IsCluster}
use Rattle.world_run.specs.Executed.{KeepsAsking}
use Rattle.world_run.specs.Run.{Goes, first_nodes}
use Rattle.world_nodes.specs.declared.output.Output.{Output}
use Rattle.world.specs.Asking.{KeepsRule}
use Rattle.world.specs.Plays.{PlaysAll}
use Rattle.world.specs.View.{IsWhole, SceneView, WorldView, first_scene}
use Rattle.world.specs.declared.step.Step.{Step}

-- some steps lead from the cluster's start to the scene, and show this
pub record IsPlayed (scene : SceneView) : Type 0 where
  pub steps : List Step
  pub outputs : List Output
  pub plays : PlaysAll (first_scene scene.config) steps outputs scene

-- the entries lead from the cluster's start to the nodes, and its clients kept to the asking rule; and as long as memory wasn't
-- refused, nothing was lost and the scene is one that was played
pub record IsReached (world : WorldView) : Type 0 where
  pub cluster : IsCluster world.scene.config
  pub goes : Goes [] (first_nodes world.scene.config) world.scene.run.entries world.scene.run.nodes
  pub keeps : KeepsAsking [] world.scene.run.entries
  pub whole : world.refused ≡ false → IsWhole world.scene
  pub rule : world.refused ≡ false → KeepsRule world.scene
  pub played : world.refused ≡ false → IsPlayed world.scene
