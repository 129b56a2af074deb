use Rattle.std.proofs.Common.{◌≡◌, false, take}
use Rattle.world_nodes.specs.Nodes.{GoesOn}
use Rattle.world.specs.Plays.{PlaysAll}
use Rattle.world.proofs.world.World.play_all.Given as goal

abbrev pub invariant-loop-step : goal.invariant-loop-step
invariant-loop-step l = record {
  config : l.self.scene.config ≡ l.fn.self.scene.config;
  goes_on : GoesOn l.fn.self.scene.run l.self.scene.run;
  plays : PlaysAll l.fn.self.scene (take l.step-index l.steps) l.outputs.items l.self.scene;
  was : l.fn.self.refused ≡ false;
  ample : l.self.refused ≡ false;
}
