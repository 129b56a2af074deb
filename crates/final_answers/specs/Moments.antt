-- What a world plays, step by step (ours).
use Rattle.std.specs.Prelude.{◌≡◌, ◌++◌, ◌∷◌, List, []}
use Rattle.world_run.specs.Executed.{Answered, executed}
use Rattle.world_nodes.specs.declared.output.Output.{Output}
use Rattle.world.specs.Plays.{Plays}
use Rattle.world.specs.View.{SceneView}
use Rattle.world.specs.declared.step.Step.{Step}
use Rattle.final_answers.specs.Reasons.{HaveReasons}

-- a step, what it showed, and the commands that were executed by it
pub record Moment : Type 0 where
  pub step : Step
  pub shown : List Output
  pub executed : List Answered

-- these moments lead from the old scene to the new one, and each answer has its reason
abbrev pub PlaysSo : SceneView → List Moment → SceneView → Type 0
PlaysSo old [] new = new ≡ old
PlaysSo old (moment ∷ moments) new =
    (next : SceneView) × Plays old moment.step moment.shown next × HaveReasons old moment.step moment.shown
    × (executed next.run.entries ≡ executed old.run.entries ++ moment.executed) × PlaysSo next moments new
