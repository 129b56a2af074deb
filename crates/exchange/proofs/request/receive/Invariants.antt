use Rattle.std.proofs.Common.{◌<◌, length}
use Rattle.resp2.specs.Counting.{failures_of, inner_of}
use Rattle.exchange.proofs.Counts.{Counts}
use Rattle.exchange.proofs.Receiving.{Came}
use Rattle.exchange.proofs.request.receive.Given as goal

-- what came is no whole reply so far
abbrev pub invariant-reads : goal.invariant-reads
invariant-reads g l = record {
  so_far : Came (g.R.Read.remaining (inner_of l.fn.reader)) (g.R.Read.remaining (inner_of l.reader)) l.fn.replies l.replies;
  counts : Counts l.counter (length so_far.came) (failures_of l.fn.reader) (failures_of l.reader);
  room : 0 < length l.input;
}
