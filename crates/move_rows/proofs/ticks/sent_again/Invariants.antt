use Rattle.std.proofs.Common.{◌≡◌, ◌++◌}
use Rattle.std.specs.List.{flat_map}
use Rattle.slot_state.specs.Moves.{running_moves}
use Rattle.node_step.specs.Ticks.{sent_again}
use Rattle.move_rows.proofs.ticks.sent_again.Given as goal

-- what is sent so far, and what is left
abbrev pub invariant-loop-slot : goal.invariant-loop-slot
invariant-loop-slot g l = l.bodies.items ++ flat_map (sent_again l.node) l.slot-iterator ≡ flat_map (sent_again l.node) (running_moves l.node.moves)
