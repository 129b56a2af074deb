use Rattle.std.proofs.lemmas.Result.{err_from_is_err_and}
use Rattle.listener.specs.Turns.ReadsNot.{finds_no_memory}
use Rattle.listener.proofs.talk.Talk.read_once.Goals as goal

pub returns-in_err-read-clause-failed : goal.returns-in_err-read-clause-failed
returns-in_err-read-clause-failed g c =
    let p = err_from_is_err_and c.from_residual-in_err-read.result c.from_residual-in_err-read.ensures.1 in
    let gave = rw c.in-Bytes.is at c.in_ok-came.ensures.came in
    rw (p.1, p.2) (finds_no_memory _ c.in_err-read.ensures.fault gave.2 gave.3)
