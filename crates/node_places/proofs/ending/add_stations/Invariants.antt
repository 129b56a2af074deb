use Rattle.std.proofs.Common.{◌≡◌, ◌+◌, length, map, vec_len}
use Rattle.std.specs.List.{range_with_len}
use Rattle.std.specs.Vec.Iter.{into_iter_items}
use Rattle.node_places.proofs.ending.add_stations.Given as goal

-- each node so far has given its station, and they have the numbers from 0 on
abbrev pub invariant-loop-node : goal.invariant-loop-node
invariant-loop-node g l =
    record {
      count : vec_len l.stations + length (into_iter_items l.node-iterator) ≡ vec_len l.fn.nodes;
      numbers : map (λ station. station.cell.node) l.stations.items ≡ range_with_len 0 (vec_len l.stations);
    }
