use Rattle.std.proofs.lemmas.Result.{err_from_is_err_and}
use Rattle.listener.proofs.BatchLemmas.{fails_before, fails_behind}
use Rattle.listener.proofs.outgoing.Outgoing.write_out.Goals as goal

pub returns-in_err-flush-clause-sends : goal.returns-in_err-flush-clause-sends
returns-in_err-flush-clause-sends g c =
    let p = err_from_is_err_and c.from_residual.result c.from_residual.ensures.1 in
    rw p.1 (fails_before _ _ _ _ c.in_err-flush.ensures.sends)

pub returns-in_err-send_held-clause-sends : goal.returns-in_err-send_held-clause-sends
returns-in_err-send_held-clause-sends g c =
    let p = err_from_is_err_and c.from_residual-in_err-send_held.result c.from_residual-in_err-send_held.ensures.1 in
    rw p.1 (fails_behind _ _ _ _ _ c.in_ok-flush.ensures.sends c.in_err-send_held.ensures.sends)
