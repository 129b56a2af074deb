use Rattle.std.proofs.Common.{◌-◌, ◌^◌, vec_len}
use Rattle.resp2.specs.Counting.{failures_of, inner_of}
use Rattle.std.specs.Io.KnownBytes.{Consumes}
use Rattle.simulator.specs.Playing.{MayFail}
use Rattle.simulator.proofs.incoming.read_whole.Given as goal

-- the text is what was read so far
abbrev pub invariant-pieces : goal.invariant-pieces
invariant-pieces g l = record {
  read : Consumes (g.R.Read.remaining (inner_of l.fn.reader)) (g.R.Read.remaining (inner_of l.reader)) l.text.items;
  counts : MayFail (failures_of l.fn.reader) (failures_of l.reader);
}

abbrev pub decreases-pieces : goal.decreases-pieces
decreases-pieces g l = 2 ^ 64 - vec_len l.text
