use Rattle.std.proofs.Common.{◌++◌, take}
use Rattle.std.proofs.KnownBytes.{Appends-kept, Appends-trans}
use Rattle.resp2.proofs.Beginnings.{moves_on}
use Rattle.resp2.proofs.whole.write_whole.Goals as goal
use Rattle.resp2.proofs.whole.write_whole.Goals.{in-Ok, in-Err}

pub turns-preserved : goal.turns-preserved
turns-preserved g c =
    let so_far = c.turns.invariant in
    elim c.match-write.branch [
      | in-Ok w ↦ record {
        written = so_far.written ++ take w.in-Ok.count c.turns.rest.now;
        appends = Appends-trans _ _ _ _ _ so_far.appends w.in-Ok.ensures.bytes;
        split = rw w.rest-is (moves_on c.args.bytes.now so_far.written c.turns.rest.now w.in-Ok.count so_far.split);
      }
      | in-Err w ↦ record {
        written = so_far.written;
        appends = Appends-kept _ _ _ _ so_far.appends w.in-Err.ensures.bytes;
        split = rw w.rest-is so_far.split;
      }
    ]
