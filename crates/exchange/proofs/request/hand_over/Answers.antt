use Rattle.std.proofs.Common.{◌-◌, ◌++◌, length, take, drop, inr}
use Rattle.std.proofs.KnownBytes.{Appends-kept, Appends-trans}
use Rattle.resp2.proofs.Beginnings.{moves_on}
use Rattle.exchange.proofs.Counts.{turn_broken, turn_failed, turn_moved}
use Rattle.exchange.proofs.Sending.{more_written, some_left, some_written}
use Rattle.exchange.proofs.request.hand_over.Goals as goal
use Rattle.exchange.proofs.request.hand_over.Goals.{in-Ok+else-is_empty, in-Err}

pub returns-in-Err-flush-clause-err : goal.returns-in-Err-flush-clause-err
returns-in-Err-flush-clause-err g c =
    let so_far = c.turns.invariant in
    record {
      written = so_far.written ++ take c.in-Ok.count c.turns.rest.now;
      rest = take (length c.turns.rest.now - c.in-Ok.count) (drop c.in-Ok.count c.turns.rest.now);
      some = some_written so_far.written c.turns.rest.now c.in-Ok.count c.in-Ok.ensures.some;
      split = moves_on c.args.bytes.now so_far.written c.turns.rest.now c.in-Ok.count so_far.split;
      appends = Appends-kept _ _ _ _ (Appends-trans _ _ _ _ _ so_far.appends c.in-Ok.ensures.bytes) c.in-Err-flush.ensures.bytes;
      failed = turn_broken _ _ _ _ _ _ so_far.counts c.in-Ok.ensures.ok c.in-Err-flush.ensures.err;
    }

pub turns-preserved : goal.turns-preserved
turns-preserved g c =
    let so_far = c.turns.invariant in
    elim c.match-send.branch [
      | in-Ok+else-is_empty w ↦ record {
        written = so_far.written ++ take w.in-Ok.count c.turns.rest.now;
        appends = Appends-trans _ _ _ _ _ so_far.appends w.in-Ok.ensures.bytes;
        split = rw w.rest-is (moves_on c.args.bytes.now so_far.written c.turns.rest.now w.in-Ok.count so_far.split);
        left = rw w.rest-is (some_left _ _ w.is_empty.ensures w.if-is_empty.false);
        handed = rw w.handed-is (some_written so_far.written c.turns.rest.now w.in-Ok.count w.in-Ok.ensures.some);
        counts = rw (more_written so_far.written c.turns.rest.now w.in-Ok.count w.in-Ok.ensures.some.1)
            (turn_moved _ _ _ _ _ _ so_far.counts w.in-Ok.ensures.some.0 w.in-Ok.ensures.ok);
      }
      | in-Err w ↦ record {
        written = so_far.written;
        appends = Appends-kept _ _ _ _ so_far.appends w.in-Err.ensures.bytes;
        split = rw w.rest-is so_far.split;
        left = rw w.rest-is so_far.left;
        handed = rw w.handed-is so_far.handed;
        counts = inr (turn_failed _ _ _ _ _ so_far.counts w.in-Err.ensures.err);
      }
    ]
