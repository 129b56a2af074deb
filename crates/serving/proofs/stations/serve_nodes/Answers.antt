use Rattle.std.proofs.Common.{◌≡◌, ap, length, vec_len, ◌∙◌}
use Rattle.std.specs.List.{range_with_len}
use Rattle.serving.proofs.stations.serve_nodes.Goals as goal

pub returns-clause-count : goal.returns-clause-count
returns-clause-count g c =
    let all : vec_len c.in_ok-nodes-2.nodes ≡ length c.args.places.items = c.in_ok-nodes-2.ensures ∙ c.in_ok-nodes.ensures in
    c.in_ok-stations_of.ensures.count ∙ all

pub returns-clause-nodes : goal.returns-clause-nodes
returns-clause-nodes g c =
    let all : vec_len c.in_ok-nodes-2.nodes ≡ length c.args.places.items = c.in_ok-nodes-2.ensures ∙ c.in_ok-nodes.ensures in
    c.in_ok-stations_of.ensures.nodes ∙ ap (range_with_len 0) (all ∙ c.requires.places)
