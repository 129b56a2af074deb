use Rattle.std.proofs.Common.{ℕ, List, arith, refl}
use Rattle.std.proofs.lemmas.Result.{err_from_is_err_and}
use Rattle.std.specs.Borrow.{Bor}
use Rattle.resp2.proofs.Beginnings.{begun_at}
use Rattle.resp2.proofs.writing.write_slices.Goals as goal

pub returns-in_err-write_whole-clause-begun : goal.returns-in_err-write_whole-clause-begun
returns-in_err-write_whole-clause-begun g c =
    let p = err_from_is_err_and c.from_residual.result c.from_residual.ensures.1 in
    rw p.1
    (begun_at _ _ _ (λ (slice : Bor (List ℕ)). slice.now) c.args.slices.now c.loop-slice.slice-index _ _ (omega arith) refl c.loop-slice.invariant
    c.in_err-write_whole.ensures.begun)
