use Rattle.std.proofs.Common.{◌≡◌, ◌<◌, ◌++◌, ℕ, List, [], length, MatchBool}
use Rattle.std.specs.Io.KnownBytes.{Appends}
use Rattle.exchange.specs.Sender.{failures_of, writer_of}
use Rattle.exchange.proofs.Counts.{Counts}
use Rattle.exchange.proofs.request.hand_over.Given as goal

-- what was written and what is left are all of the bytes, and some are left
abbrev pub invariant-turns : goal.invariant-turns
invariant-turns g l = record {
  written : List ℕ;
  appends : Appends (g.W.Write.contents (writer_of l.fn.sender)) (g.W.Write.contents (writer_of l.sender)) written;
  split : written ++ l.rest ≡ l.fn.bytes;
  left : 0 < length l.rest;
  handed : MatchBool l.handed (0 < length written) (written ≡ []);
  counts : Counts l.counter (length written) (failures_of l.fn.sender) (failures_of l.sender);
}
