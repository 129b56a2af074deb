use Rattle.std.proofs.Common.{◌≡◌, ◌++◌, map}
use Rattle.std.specs.Vec.Iter.{into_iter_items}
use Rattle.links.specs.Stations.{port_of}
use Rattle.links.proofs.station.ports_at.Given as goal

-- the ports so far, and the ends that are left
abbrev pub invariant-loop-end : goal.invariant-loop-end
invariant-loop-end g l =
    l.ports.items ++ map (λ end. port_of (g.E.PortEnd.giving end)) (into_iter_items l.end-iterator) ≡ map (λ end. port_of (g.E.PortEnd.giving end)) l.fn.ends.items
