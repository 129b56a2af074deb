use Rattle.world_nodes.proofs.Going.{made_goes_on, skipped_goes_on, skips_so}
use Rattle.world_nodes.proofs.run.Run.make_for.Goals as goal

pub returns-in_default-clause-skipped : goal.returns-in_default-clause-skipped
returns-in_default-clause-skipped c =
    skips_so c.args.self.now (record { nodes = c.self.inside.nodes.items; stopped = c.self.inside.stopped.items; sent = c.self.inside.sent.items; entries = c.self.inside.entries }) c.step_at.new.nodes.items c.step_at.new.entries c.args.node c.args.event.now c.self.view_is
    (rw c.in_default.is at c.in_ok-outputs.ensures.skipped)

pub returns-in_default-clause-goes_on : goal.returns-in_default-clause-goes_on
returns-in_default-clause-goes_on c =
    let skipped = rw c.in_default.is at c.in_ok-outputs.ensures.skipped in
    skipped_goes_on c.args.self.now (record { nodes = c.self.inside.nodes.items; stopped = c.self.inside.stopped.items; sent = c.self.inside.sent.items; entries = c.self.inside.entries }) c.step_at.new.nodes.items c.self.inside.stopped.items c.self.inside.sent.items c.step_at.new.entries c.args.node c.args.event.now c.self.view_is skipped

pub returns-in_err-remember-clause-goes_on : goal.returns-in_err-remember-clause-goes_on
returns-in_err-remember-clause-goes_on c =
    let made = rw c.in-Some.is at c.in_ok-outputs.ensures.made in
    made_goes_on c.args.self.now (record { nodes = c.self.inside.nodes.items; stopped = c.self.inside.stopped.items; sent = c.self.inside.sent.items; entries = c.self.inside.entries }) c.step_at.new.nodes.items c.self.inside.stopped.items c.remember.new.sent.items c.step_at.new.entries c.args.node c.args.event.now c.in-Some.outputs c.self.view_is c.requires.asks made

pub returns-clause-goes_on : goal.returns-clause-goes_on
returns-clause-goes_on c =
    let made = rw c.in-Some.is at c.in_ok-outputs.ensures.made in
    made_goes_on c.args.self.now (record { nodes = c.self.inside.nodes.items; stopped = c.self.inside.stopped.items; sent = c.self.inside.sent.items; entries = c.self.inside.entries }) c.step_at.new.nodes.items c.self.inside.stopped.items c.remember.new.sent.items c.step_at.new.entries c.args.node c.args.event.now c.in-Some.outputs c.self.view_is c.requires.asks made
