use Rattle.cell_parts.specs.Undelivered.{joined}
use Rattle.node_cell.proofs.GivenLemmas.{given_after, given_after_skip}
use Rattle.node_cell.proofs.SentLemmas.{sent_by_step}
use Rattle.node_cell.proofs.cell.advance.Goals as goal

pub put_out-requires-clause-sent : goal.put_out-requires-clause-sent
put_out-requires-clause-sent g c =
    sent_by_step g.K.Deployment.config _ _ _ _ _ c.in-Ok.outputs c.requires.reachable c.requires.in_time c.in-Ok.ensures.step

pub returns-in-Ok-clause-given : goal.returns-in-Ok-clause-given
returns-in-Ok-clause-given g c given =
    rw (c.add_released.ensures, c.enter_step.ensures, c.in-Ok.ensures.recorded)
    (given_after (g.L.Log.entries c.args.log.now) c.args.event c.in-Ok.outputs (joined c.args.undelivered.now.items) given)

pub returns-in-Err-clause-given : goal.returns-in-Err-clause-given
returns-in-Err-clause-given g c given =
    rw c.enter_skip.ensures (given_after_skip (g.L.Log.entries c.args.log.now) c.args.ticket (joined c.args.undelivered.now.items) given)
