use Rattle.std.proofs.Common.{◌≡◌, ◌++◌, All, length, map}
use Rattle.std.specs.Vec.Iter.{into_iter_items, into_iter_len}
use Rattle.links.specs.Stations.{IsStation}
use Rattle.audit.specs.Gathered.{parts_of}
use Rattle.audit.specs.Stations.{cells_of, ends_of}
use Rattle.audit.proofs.stations.finish_each.Given as goal

-- what is left of the stations so far, and the stations that are left
abbrev pub invariant-loop-station : goal.invariant-loop-station
invariant-loop-station g l =
    record {
      parts : l.parts.items ++ parts_of (cells_of (into_iter_items l.station-iterator)) ≡ parts_of (cells_of l.fn.stations.items);
      ends : l.all_ends.items ++ map ends_of (into_iter_items l.station-iterator) ≡ map ends_of l.fn.stations.items;
      stations : All (IsStation g.W.Web.links) (into_iter_items l.station-iterator) → All (IsStation g.W.Web.links) l.fn.stations.items;
      cluster : All (λ station. station.cell.config ≡ g.K.Deployment.config) (into_iter_items l.station-iterator) → All (λ station. station.cell.config ≡ g.K.Deployment.config) l.fn.stations.items;
      left : into_iter_len l.station-iterator ≡ length (into_iter_items l.station-iterator);
    }
