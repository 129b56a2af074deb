use Rattle.std.proofs.Common.{◌∙◌, ap}
use Rattle.node_core.proofs.TickLemmas.{tick_is_step, tick_left, tick_unmade}
use Rattle.node_step.specs.Failing.{a_tick_older}
use Rattle.node_step.specs.Voting.{due_epoch}
use Rattle.node_core.proofs.ticks.pass_tick.Goals as goal

pub returns-clause-step : goal.returns-clause-step
returns-clause-step g c =
    tick_is_step c.args.ticket c.args.node.now c.grow_older.new.self c.begin_election.new.self c.in_ok-epoch.epoch c.draft_tick.new.draft (c.grow_older.ensures ∙ ap a_tick_older c.keep_claim.ensures) c.in_ok-epoch.ensures.epoch
    c.in_ok-epoch.ensures.begun c.in_ok-make.field-0.0 c.make.new.node c.in_ok-epoch.ensures.left c.in_ok-draft_tick.ensures c.in_ok-make.ensures.outputs c.in_ok-make.ensures.state

pub returns-in_err-draft_tick-clause-err : goal.returns-in_err-draft_tick-clause-err
returns-in_err-draft_tick-clause-err g c =
    tick_left c.from_residual-in_err-draft_tick.result c.args.node.now c.keep_claim.new.self c.grow_older.new.self c.begin_election.new.self (due_epoch c.grow_older.new.self)
    c.keep_claim.ensures c.grow_older.ensures c.in_ok-epoch.ensures.begun

pub returns-in_err-make-clause-err : goal.returns-in_err-make-clause-err
returns-in_err-make-clause-err g c =
    let result = c.from_residual-in_err-make.result in
    tick_unmade result c.args.node.now c.begin_election.new.self c.make.new.node c.in_err-make.ensures.err
    (tick_left result c.args.node.now c.keep_claim.new.self c.grow_older.new.self c.begin_election.new.self (due_epoch c.grow_older.new.self) c.keep_claim.ensures c.grow_older.ensures c.in_ok-epoch.ensures.begun)
