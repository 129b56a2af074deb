use Rattle.std.proofs.Common.{◌≡◌, ◌++◌, map, take}
use Rattle.cluster_config.specs.Config.{run_of}
use Rattle.cluster_config.proofs.config.add_runs.Given as goal

abbrev pub invariant-loop-range : goal.invariant-loop-range
invariant-loop-range l = l.runs.items ≡ l.fn.runs.items ++ map (run_of l.owner) (take l.range-index l.range-items)
