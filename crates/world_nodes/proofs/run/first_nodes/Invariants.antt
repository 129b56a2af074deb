use Rattle.std.proofs.Common.{◌≡◌, ◌≤◌, map, length}
use Rattle.std.specs.List.{range_with_len}
use Rattle.node_step.specs.State.{first_state}
use Rattle.world_nodes.proofs.run.first_nodes.Given as goal

abbrev pub invariant-loop-at : goal.invariant-loop-at
invariant-loop-at l = record {
  nodes : l.nodes.items ≡ map (first_state l.config) (range_with_len 0 l.at);
  most : length l.config.nodes ≤ 16;
}
