use Rattle.std.proofs.Common.{◌≡◌, ◌⊎◌}
use Rattle.exchange.specs.Exchange.{HasFailed}
use Rattle.resp2.specs.Counting.{failures_of, inner_of}
use Rattle.std.specs.Io.KnownBytes.{Keeps}
use Rattle.simulator.proofs.incoming.read_block.Given as goal

-- nothing was read, and each turn so far failed
abbrev pub invariant-reads : goal.invariant-reads
invariant-reads g l = record {
  keeps : Keeps (g.R.Read.remaining (inner_of l.fn.reader)) (g.R.Read.remaining (inner_of l.reader));
  counts : ((l.counter ≡ 0) × (failures_of l.reader ≡ failures_of l.fn.reader)) ⊎ HasFailed (failures_of l.fn.reader) (failures_of l.reader);
}
