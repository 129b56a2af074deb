use Rattle.std.proofs.Common.{◌≡◌, ◌++◌}
use Rattle.std.specs.Prelude.{map, take, drop}
use Rattle.node_step.specs.Promotion.{entry_after}
use Rattle.election_rows.proofs.promotion.claim_all.Given as goal

-- the slots so far have what they have then
abbrev pub invariant-loop-place : goal.invariant-loop-place
invariant-loop-place l = l.table ≡ map (entry_after l.master l.claim) (take l.place l.initial.table) ++ drop l.place l.initial.table
