use Rattle.std.proofs.lemmas.Result.{err_from_is_err_and}
use Rattle.listener.specs.Turns.ReadsNot.{finds_no_memory}
use Rattle.listener.proofs.connection.read_some.Goals as goal

pub returns-in_err-read-clause-failed : goal.returns-in_err-read-clause-failed
returns-in_err-read-clause-failed g c =
    let p = err_from_is_err_and c.from_residual.result c.from_residual.ensures.1 in
    rw (p.1, p.2) (finds_no_memory _ c.in_err-read.ensures.fault c.in-Ok.ensures.bytes.0 c.in-Ok.ensures.ok)
