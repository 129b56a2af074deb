-- The laws of calls: what a client is told in the end says what became of its command, and is told for its reason
-- (ours: the Redis Cluster specification has no such law).
use Rattle.std.specs.Prelude.{◌≡◌, false, List, [], map}
use Rattle.std.specs.List.{AllByRecursion, flat_map}
use Rattle.cluster_config.specs.Config.{ClusterConfig, IsCluster}
use Rattle.world_nodes.specs.declared.output.Output.{Output}
use Rattle.world.specs.Plays.{Plays, PlaysAll}
use Rattle.world.specs.View.{SceneView, WorldView, first_scene}
use Rattle.world.specs.declared.step.Step.{Step}
use Rattle.final_answers.specs.Book.{Book, IsBook, IsRight}
use Rattle.final_answers.specs.Moments.{Moment, PlaysSo}
use Rattle.final_answers.specs.Reasons.{HaveReasons}

-- ---- answers tell what became of commands

-- there is a book of these steps: each command that was executed is that of one call, executed behind its beginning, and before its answer
-- unless the client doesn't know; a call has one execution at most, and each answer says whether it has one, and with which reply
pub record AreAnswered (config : ClusterConfig) (steps : List Step) (outputs : List Output) (scene : SceneView) : Type 0 where
  pub moments : List Moment
  pub steps_are : map (λ (moment : Moment). moment.step) moments ≡ steps
  pub shown_are : flat_map (λ (moment : Moment). moment.shown) moments ≡ outputs
  pub plays : PlaysSo (first_scene config) moments scene
  pub book : Book
  pub is_book : IsBook moments [] book
  pub right : AllByRecursion IsRight book

-- whatever the steps, and however messages, requests and replies are late or lost
abbrev pub FinalAnswers : Type 0
FinalAnswers = (config : ClusterConfig) (steps : List Step) (outputs : List Output) (scene : SceneView) → IsCluster config → PlaysAll (first_scene config) steps outputs scene
    → AreAnswered config steps outputs scene

-- ---- answers have reasons

-- whatever was played from the cluster's start, each answer that a step then shows has its reason
abbrev pub AnswersHaveReasons : Type 0
AnswersHaveReasons = (config : ClusterConfig) (steps : List Step) (outputs : List Output) (old : SceneView) → IsCluster config → PlaysAll (first_scene config) steps outputs old
    → (made : Step) (shown : List Output) (new : SceneView) → Plays old made shown new → HaveReasons old made shown

-- ---- worlds

-- some steps lead from the cluster's start to the scene, and their calls were answered so
pub record AreAnsweredIn (scene : SceneView) : Type 0 where
  pub steps : List Step
  pub outputs : List Output
  pub answered : AreAnswered scene.config steps outputs scene

-- as long as memory wasn't refused
abbrev pub AreFinalIn : WorldView → Type 0
AreFinalIn world = world.refused ≡ false → AreAnsweredIn world.scene
