use Rattle.std.proofs.Common.{refl, rules}
use Rattle.resharder.proofs.StepLemmas.{steps}
use Rattle.resharder.proofs.WaitLemmas.{told}
use Rattle.resharder.proofs.reshard_core.ReshardCore.on.Goals as goal

pub returns-in-Ok : goal.returns-in-Ok
returns-in-Ok c =
    let told = told c.args.self.now c.args.event _ _ (steps c.args.self.now c.self.inside.plan c.replace-stage.result c.args.event _ _ _ c.in-Ok.ensures (search rules) refl (search rules)) in
    record { steps = told.steps; waits = told.waits }

pub returns-in-Err : goal.returns-in-Err
returns-in-Err c =
    let told = told c.args.self.now c.args.event _ _ (steps c.args.self.now c.self.inside.plan c.replace-stage.result c.args.event _ _ _ c.in-Err.ensures (search rules) refl (search rules)) in
    record { steps = told.steps; waits = told.waits }
