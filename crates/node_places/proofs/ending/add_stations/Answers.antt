use Rattle.std.proofs.Common.{rules, ◌≡◌, ◌+◌, ap, vec_len, ◌∙◌}
use Rattle.std.specs.List.{range_with_len}
use Rattle.node_places.proofs.PlaceLemmas.{counted_one_more}
use Rattle.node_places.proofs.ending.add_stations.Goals as goal

pub loop-node-preserved : goal.loop-node-preserved
loop-node-preserved g c =
    let grown : vec_len c.add_station.new.stations ≡ vec_len c.loop-node.stations + 1 = search rules in
    record {
      count = search rules;
      numbers = counted_one_more _ _ (vec_len c.loop-node.stations) _ grown (search rules) c.loop-node.invariant.numbers;
    }

pub returns-clause-nodes : goal.returns-clause-nodes
returns-clause-nodes g c =
    let all : vec_len c.loop-node.stations ≡ vec_len c.args.nodes = search rules in
    c.loop-node.invariant.numbers ∙ ap (range_with_len 0) all
