use Rattle.std.proofs.Common.{◌≡◌, ◌++◌, take, map}
use Rattle.world_nodes.specs.Outputs.{released_reply}
use Rattle.world_nodes.proofs.output.add_released.Given as goal

abbrev pub invariant-loop-release : goal.invariant-loop-release
invariant-loop-release l = l.outputs.items ≡ l.fn.outputs.items ++ map (released_reply l.node) (take l.release-index l.releases)
