use Rattle.std.proofs.Common.{rules, ◌≡◌, ◌<◌, length, map}
use Rattle.std.specs.List.{range_with_len}
use Rattle.std.specs.List.Sorted.{IsPermutation}
use Rattle.links.specs.Stations.{StationView}
use Rattle.audit.proofs.Ordering.{are_in_order, gathered_in_order, never_stranger, not_each_once, some_are_there}
use Rattle.audit.proofs.stations.gather_stations.Goals as goal

pub returns-then-is_empty-clause-stranger : goal.returns-then-is_empty-clause-stranger
returns-then-is_empty-clause-stranger g c _ some once = some_are_there _ c.args.stations.items (search rules) some once

pub gather_in_order-requires-clause-order : goal.gather_in_order-requires-clause-order
gather_in_order-requires-clause-order g c =
    let count : length g.K.Deployment.config.nodes ≡ length c.nodes-count.result.now = search rules in
    let some : 0 < length c.nodes-count.result.now = search rules in
    let order : map (λ (station : StationView). station.cell.node) c.in-Some.in_order.items ≡ range_with_len 0 (length c.nodes-count.result.now) = search rules in
    are_in_order _ _ c.in-Some.in_order.items count some order

pub returns-in-Some-clause-run : goal.returns-in-Some-clause-run
returns-in-Some-clause-run g c =
    let same : IsPermutation c.args.stations.items c.in-Some.in_order.items = search rules in
    gathered_in_order g.K.Deployment.config c.args.stations.items c.in-Some.in_order.items c.gather_in_order.result same c.gather_in_order.ensures.run

pub returns-in-Some-clause-stranger : goal.returns-in-Some-clause-stranger
returns-in-Some-clause-stranger g c = never_stranger _ c.gather_in_order.result c.gather_in_order.ensures.memory

pub returns-in-None-clause-stranger : goal.returns-in-None-clause-stranger
returns-in-None-clause-stranger g c _ some once =
    let count : length g.K.Deployment.config.nodes ≡ length c.nodes-count.result.now = search rules in
    not_each_once _ _ c.args.stations.items count (search rules) once
