use Rattle.std.proofs.Common.{◌≡◌, ◌++◌, ℕ, List}
use Rattle.resp2.proofs.whole.write_whole.Given as goal
use Rattle.resp2.specs.Writing.{Writes}

-- what was written and what is left are all of the bytes
abbrev pub invariant-turns : goal.invariant-turns
invariant-turns g l = record {
  written : List ℕ;
  appends : Writes g.W.Write.contents l.fn.out l.out written;
  split : written ++ l.rest ≡ l.fn.bytes;
}
