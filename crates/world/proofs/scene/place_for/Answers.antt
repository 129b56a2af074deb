use Rattle.std.proofs.Common.{◌∙◌, ap, rules, tests, ℕ, Option, length}
use Rattle.std.specs.Prelude.{nat_le}
use Rattle.std.specs.Option.{unwrap_or}
use Rattle.std.proofs.lemmas.Iterator.{YieldsList-from_slice}
use Rattle.std.proofs.lemmas.Iterator.Search.{position_from_yields_List}
use Rattle.cluster_config.proofs.PlaceLemmas.{first_place}
use Rattle.world.specs.Clients.{ClientView}
use Rattle.world.proofs.scene.place_for.Goals as goal

pub returns-clause-place : goal.returns-clause-place
returns-clause-place c =
    let is_not_below = λ (client : ClientView). nat_le c.args.number client.number in
    let found = position_from_yields_List is_not_below _ _ c.position.result c.position.ensures.ran (YieldsList-from_slice c.args.clients.now cc) (λ x b q k. search (rules, tests)) in
    c.unwrap_or.ensures ∙ ap (λ (o : Option ℕ). unwrap_or o (length c.args.clients.now)) found ∙ first_place is_not_below c.args.clients.now
