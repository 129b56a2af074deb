use Rattle.std.proofs.Common.{◌≡◌, ◌≤◌, ◌++◌, drop}
use Rattle.world_nodes.specs.Outputs.{numbered}
use Rattle.world_nodes.proofs.output.add_sent.Given as goal

abbrev pub invariant-loop-at : goal.invariant-loop-at
invariant-loop-at l = record {
  shown : l.outputs.items ++ numbered l.at (drop l.at l.sent) ≡ l.fn.outputs.items ++ numbered l.first (drop l.first l.sent);
  from : l.first ≤ l.at;
}
