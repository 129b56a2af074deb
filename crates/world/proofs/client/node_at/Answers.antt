use Rattle.std.proofs.Common.{◌∙◌, ap, rules, tests, ℕ, Option, length}
use Rattle.std.specs.Option.{unwrap_or}
use Rattle.std.proofs.lemmas.Iterator.{YieldsList-from_slice}
use Rattle.std.proofs.lemmas.Iterator.Search.{position_from_yields_List}
use Rattle.cluster_config.proofs.PlaceLemmas.{first_place}
use Rattle.world.specs.Clients.{is_at}
use Rattle.world.proofs.client.node_at.Goals as goal

pub returns : goal.returns
returns c =
    let found = position_from_yields_List (is_at c.args.address.now) _ _ c.position-found.result c.position-found.ensures.ran (YieldsList-from_slice c.args.config.now.nodes cc) (λ x b q k. search (rules, tests)) in
    c.unwrap_or.ensures ∙ ap (λ (n : ℕ). unwrap_or c.position-found.result n) (ap length c.nodes-nodes.ensures.nodes)
    ∙ ap (λ (o : Option ℕ). unwrap_or o (length c.args.config.now.nodes)) found ∙ first_place (is_at c.args.address.now) c.args.config.now.nodes
