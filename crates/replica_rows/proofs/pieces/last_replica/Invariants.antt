use Rattle.replica_rows.proofs.PieceLemmas.{IsLastOf, copies}
use Rattle.replica_rows.proofs.pieces.last_replica.Given as goal

-- the last one so far is known
abbrev pub invariant-loop-place : goal.invariant-loop-place
invariant-loop-place g l = IsLastOf (copies l.node.masters l.node.number) l.last l.place
