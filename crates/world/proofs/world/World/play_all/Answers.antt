use Rattle.std.proofs.Common.{◌∷◌, ◌++◌, [], ap, sym, ◌∙◌, subst, take}
use Rattle.std.proofs.lemmas.List.{take_more}
use Rattle.world_nodes.specs.Nodes.{GoesOn}
use Rattle.world_nodes.proofs.Going.{goes_further}
use Rattle.world.specs.View.{WorldView}
use Rattle.world.specs.declared.step.Step.{Step}
use Rattle.world.proofs.Worlds.{plays_one_more}
use Rattle.world.proofs.world.World.play_all.Goals as goal

pub returns-in_err-shown-clause-goes_on : goal.returns-in_err-shown-clause-goes_on
returns-in_err-shown-clause-goes_on c = goes_further _ _ _ c.loop-step.invariant.goes_on c.play.ensures.goes_on

pub returns-in_default-clause-goes_on : goal.returns-in_default-clause-goes_on
returns-in_default-clause-goes_on c =
    subst (λ (world : WorldView). GoesOn c.args.self.now.scene.run world.scene.run) (sym c.refuse.ensures) (goes_further _ _ _ c.loop-step.invariant.goes_on c.play.ensures.goes_on)

pub loop-step-preserved : goal.loop-step-preserved
loop-step-preserved c =
    let so_far = c.loop-step.invariant in
    let one_more =
    take_more c.args.steps.now c.loop-step.step-index c.step-item.result c.loop-step-test.true
    ∙ ap (λ (step : Step). take c.loop-step.step-index c.args.steps.now ++ step ∷ []) (sym c.step-item.is) in
    let plays =
    plays_one_more c.args.self.now.scene c.loop-step.self.scene c.play.new.self.scene (take c.loop-step.step-index c.args.steps.now) c.step-item.result c.loop-step.outputs.items c.in_ok-shown.shown.items so_far.plays c.in_ok-shown.ensures.plays in
    record {
      config = c.play.ensures.config ∙ so_far.config;
      goes_on = goes_further _ _ _ so_far.goes_on c.play.ensures.goes_on;
      plays = rw (one_more, c.in-Ok.ensures.items) plays;
      was = so_far.was;
      ample = c.in_ok-shown.ensures.ok.1;
    }
