-- A script that a world plays.
use Rattle.std.proofs.Common.{◌≡◌, ℕ, List, ap, subst, ◌∙◌}
use Rattle.std.specs.List.{flat_map}
use Rattle.cluster_config.specs.Config.{ClusterConfig}
use Rattle.final_answers.specs.Law.{AreAnswered}
use Rattle.promoted_prefix.specs.Law.{PromotionsGoOn}
use Rattle.simulator.specs.Printing.{printed}
use Rattle.simulator.specs.Simulation.{Simulates}
use Rattle.world_nodes.specs.declared.output.Output.{Output}
use Rattle.world.specs.Plays.{PlaysAll}
use Rattle.world.specs.View.{SceneView, WorldView, first_scene, first_world}
use Rattle.world.specs.declared.step.Step.{Step}
use Rattle.world_run.specs.Executed.{AreOfOneKeyspace, executed}
use Rattle.world_run.specs.Law.{HasOneMasterAnEpoch}
use Rattle.world_run.specs.Promotions.{until_promotion}

-- what holds of the world that played it holds of the script
pub simulated : (config : ClusterConfig) (steps : List Step) (begun world : WorldView) (outputs : List Output) (text : List ℕ) → begun ≡ first_world config → world.scene.config ≡ begun.scene.config
    → PlaysAll begun.scene steps outputs world.scene → text ≡ flat_map printed outputs → AreOfOneKeyspace (executed (until_promotion world.scene.run.entries))
    → HasOneMasterAnEpoch world.scene.config.voters world.scene.run.entries → PromotionsGoOn world.scene.config world.scene.run.entries
    → ((scene : SceneView) → PlaysAll (first_scene config) steps outputs scene → AreAnswered config steps outputs scene) → Simulates config steps text
simulated config steps begun world outputs text begins same plays prints keyspace master prefix answers =
    let own : world.scene.config ≡ config = same ∙ ap (λ (w : WorldView). w.scene.config) begins in
    let all : PlaysAll (first_scene config) steps outputs world.scene = subst (λ (w : WorldView). PlaysAll w.scene steps outputs world.scene) begins plays in
    record {
      scene = world.scene;
      outputs = outputs;
      plays = all;
      prints = prints;
      one_keyspace = keyspace;
      one_master = subst (λ (c : ClusterConfig). HasOneMasterAnEpoch c.voters world.scene.run.entries) own master;
      promoted_prefix = subst (λ (c : ClusterConfig). PromotionsGoOn c world.scene.run.entries) own prefix;
      answers = answers world.scene all;
    }
