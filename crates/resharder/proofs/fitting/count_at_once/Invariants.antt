use Rattle.std.proofs.Common.{take}
use Rattle.resharder.proofs.MigrationLemmas.{IsCounted}
use Rattle.resharder.proofs.fitting.count_at_once.Given as goal

-- the keys so far can be named by one request
abbrev pub invariant-loop-place : goal.invariant-loop-place
invariant-loop-place l = IsCounted l.to (take l.place l.keys) l.len
