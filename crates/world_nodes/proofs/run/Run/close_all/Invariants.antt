use Rattle.std.proofs.Common.{◌<◌, length, take}
use Rattle.world_nodes.specs.NodeSteps.{Closes, released_conns}
use Rattle.world_nodes.specs.Nodes.{GoesOn, RemembersSent}
use Rattle.world_nodes.proofs.run.Run.close_all.Given as goal

abbrev pub invariant-loop-release : goal.invariant-loop-release
invariant-loop-release l = record {
  there : l.node < length l.self.nodes;
  goes_on : GoesOn l.fn.self l.self;
  remembers : RemembersSent l.fn.self → RemembersSent l.self;
  closes : Closes l.fn.self l.node (released_conns (take l.release-index l.releases)) l.self;
}
