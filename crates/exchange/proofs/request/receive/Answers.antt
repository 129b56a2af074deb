use Rattle.std.proofs.Common.{◌∙◌, ◌<◌, ap, arith, subst}
use Rattle.resp2.specs.Reader.{ReaderState}
use Rattle.exchange.proofs.Counts.{read_moved}
use Rattle.exchange.proofs.Receiving.{came_more, failed, reads_on}
use Rattle.exchange.proofs.request.receive.Goals as goal

pub returns-in-Err-next : goal.returns-in-Err-next
returns-in-Err-next g c =
    let came = came_more _ _ _ _ _ _ _ c.reads.invariant.so_far c.in-Ok.ensures.bytes.0 c.in_default.ensures.fed in
    let sound = ap (λ (state : ReaderState). state.fault) c.in_default.ensures.fed ∙ c.in_default.ensures.sound in
    rw c.outcome_of-in-Err-next.ensures (failed _ _ _ _ _ _ _ c.in-Err-next.fault came sound c.in-Err-next.ensures.fault)

pub reads-preserved : goal.reads-preserved
reads-preserved g c =
    let so_far = c.reads.invariant.so_far in
    record {
      so_far = reads_on _ _ _ _ _ c.feed.new.self _ _ c.in-Ok-None.field-0 so_far c.in-Ok.ensures.bytes.0 c.in_default.ensures.fed c.in-Ok-None.field-0-is c.in-Ok-None.ensures.unfinished;
      counts = read_moved _ so_far.came _ _ _ _ c.reads.invariant.counts (subst (λ n. 0 < n) c.in-Ok.ensures.bound.1 (omega arith)) c.in-Ok.ensures.ok;
      room = omega arith;
    }
