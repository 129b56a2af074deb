use Rattle.std.proofs.lemmas.Result.{err_from_is_err_and}
use Rattle.listener.proofs.BatchLemmas.{fails_before, sends_behind}
use Rattle.listener.proofs.farewell.Farewell.write_out.Goals as goal

pub returns-in_err-write_out : goal.returns-in_err-write_out
returns-in_err-write_out g c =
    let p = err_from_is_err_and c.from_residual.result c.from_residual.ensures.1 in
    rw p.1 (fails_before _ _ _ _ c.in_err-write_out.ensures.sends)

pub returns : goal.returns
returns g c = sends_behind _ _ _ _ _ _ c.in_ok-write_out.ensures.sends c.send_line.ensures
