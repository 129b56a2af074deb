use Rattle.std.proofs.Common.{◌≡◌, ◌≤◌, ◌++◌, length, drop}
use Rattle.cluster_config.specs.Config.{owners_from}
use Rattle.cluster_config.proofs.config.Config.first_owners.Given as goal

abbrev pub invariant-loop-at : goal.invariant-loop-at
invariant-loop-at l = record {
  nodes : l.node-items ≡ l.self.nodes;
  few : length l.node-items ≤ 16;
  given : l.runs.items ++ owners_from l.at (drop l.at l.node-items) ≡ owners_from 0 l.node-items;
}
