use Rattle.std.proofs.Common.{◌∙◌, ap, rules, tests, ℕ, Option, length}
use Rattle.std.specs.Option.{unwrap_or}
use Rattle.std.proofs.lemmas.Iterator.{YieldsList-from_slice}
use Rattle.std.proofs.lemmas.Iterator.Search.{position_from_yields_List}
use Rattle.smart_client.specs.Step.{is_at}
use Rattle.cluster_config.proofs.PlaceLemmas.{first_place}
use Rattle.smart_client.proofs.peers.Peers.place_of.Goals as goal

pub returns-clause-place : goal.returns-clause-place
returns-clause-place c =
    let found = position_from_yields_List (is_at c.args.address.now) _ _ c.position-found.result c.position-found.ensures.ran (YieldsList-from_slice c.args.self.now cc) (λ x b q k. search (rules, tests)) in
    c.unwrap_or.ensures ∙ ap (λ (n : ℕ). unwrap_or c.position-found.result n) c.len.ensures.same ∙ ap (λ (o : Option ℕ). unwrap_or o (length c.args.self.now)) found ∙ first_place (is_at c.args.address.now) c.args.self.now
