use Rattle.std.proofs.Common.{◌+◌, ◌≤◌, length, vec_len}
use Rattle.simulator.proofs.Reading.{Reads}
use Rattle.simulator.proofs.script.read_script.Given as goal

-- the lines before the rest are read, and each of them was at least one byte
abbrev pub invariant-loop-line : goal.invariant-loop-line
invariant-loop-line l = record {
  reads : Reads l.text l.steps.items l.rest;
  room : vec_len l.steps + length l.rest ≤ length l.text;
}

abbrev pub decreases-loop-line : goal.decreases-loop-line
decreases-loop-line l = length l.rest
