use Rattle.std.proofs.Common.{sym}
use Rattle.std.proofs.lemmas.Result.{err_from_is_err_and}
use Rattle.listener.proofs.BatchLemmas.{accounts, fails_before, writes_more}
use Rattle.listener.proofs.farewell.Farewell.finish.Goals as goal

pub returns-in_err-wrote-clause-put : goal.returns-in_err-wrote-clause-put
returns-in_err-wrote-clause-put g c =
    let p = err_from_is_err_and c.from_residual.result c.from_residual.ensures.1 in
    rw (p.1, sym c.settle.ensures) (fails_before _ _ _ _ c.in_err-wrote.ensures.put)

pub returns-clause-left : goal.returns-clause-left
returns-clause-left g c =
    rw (sym c.settle.ensures) (accounts c.in_ok-wrote.wrote c.left_by.result _ _ _ _ (writes_more _ _ _ _ _ _ c.in_ok-wrote.ensures.wrote) c.left_by.ensures)
