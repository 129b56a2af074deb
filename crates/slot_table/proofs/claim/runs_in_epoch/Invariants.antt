use Rattle.std.proofs.Common.{◌≡◌, take}
use Rattle.slot_table.specs.Claims.{in_epoch}
use Rattle.slot_table.proofs.claim.runs_in_epoch.Given as goal

-- the runs so far
abbrev pub invariant-loop-run : goal.invariant-loop-run
invariant-loop-run l = l.runs.items ≡ in_epoch l.epoch (take l.run-index l.claim)
