use Rattle.std.proofs.Common.{◌≡◌, ◌++◌, map}
use Rattle.std.specs.Vec.Iter.{into_iter_items}
use Rattle.links.specs.Stations.{end_of}
use Rattle.links.proofs.station.ends_of.Given as goal

-- the ends so far, and the ports that are left
abbrev pub invariant-loop-port : goal.invariant-loop-port
invariant-loop-port g l = l.ends.items ++ map end_of (into_iter_items l.port-iterator) ≡ map end_of l.fn.ports.items
