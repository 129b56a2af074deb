use Rattle.std.proofs.Common.{true, true≢false}
use Rattle.world.specs.View.{WorldView}
use Rattle.world.proofs.Worlds.{played_on, reaches_on, rule_on}
use Rattle.world.proofs.world.World.play.Goals as goal

pub invariant_of-self : goal.invariant_of-self
invariant_of-self c =
    let old : WorldView = record { scene = c.self.inside.scene; refused = c.self.inside.is_refused } in
    let new : WorldView = record { scene = c.play.new.self; refused = c.self.inside.is_refused } in
    let step = c.args.step.now in
    let outputs = c.in-Ok.outputs.items in
    let plays = c.in-Ok.ensures.plays in
    reaches_on old new c.self.invariant c.play.ensures.config c.play.ensures.goes_on (λ _. c.in-Ok.ensures.whole)
    (λ ample. rule_on old new step outputs c.self.invariant ample plays)
    (λ ample. played_on old new step outputs c.self.invariant ample c.play.ensures.config plays)

pub invariant_of-self-in-Err : goal.invariant_of-self-in-Err
invariant_of-self-in-Err c =
    let old : WorldView = record { scene = c.self.inside.scene; refused = c.self.inside.is_refused } in
    let new : WorldView = record { scene = c.play.new.self; refused = true } in
    reaches_on old new c.self.invariant c.play.ensures.config c.play.ensures.goes_on (λ refused. absurd (true≢false refused)) (λ refused. absurd (true≢false refused))
    (λ refused. absurd (true≢false refused))
