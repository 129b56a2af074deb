use Rattle.std.proofs.Common.{◌≡◌, ◌++◌}
use Rattle.node_step.specs.Orders.{to_all}
use Rattle.node_parts.proofs.ToAll.{those_below}
use Rattle.replica_rows.proofs.PieceLemmas.{copies}
use Rattle.bus.specs.declared.bodies.StreamBody.TheVariants.{Piece}
use Rattle.bus.specs.declared.message.Body.TheVariants.{Stream}
use Rattle.replica_rows.proofs.pieces.append_below.Given as goal

-- the replicas so far get the piece
abbrev pub invariant-loop-place : goal.invariant-loop-place
invariant-loop-place g l = l.bodies.items ≡ l.initial.bodies.items ++ to_all (those_below (copies l.node.masters l.node.number) l.place) (Stream (Piece l.piece))
