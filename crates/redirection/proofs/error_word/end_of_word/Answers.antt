use Rattle.std.proofs.Common.{◌∙◌, ◌==◌, ap, rules, tests, ℕ, Option, length}
use Rattle.std.specs.Option.{unwrap_or}
use Rattle.std.proofs.lemmas.Iterator.{YieldsList-from_slice}
use Rattle.std.proofs.lemmas.Iterator.Search.{position_from_yields_List}
use Rattle.cluster_config.proofs.PlaceLemmas.{first_place}
use Rattle.redirection.proofs.error_word.end_of_word.Goals as goal

pub returns-clause-end : goal.returns-clause-end
returns-clause-end c =
    let is_blank = λ (byte : ℕ). byte == 32 in
    let found = position_from_yields_List is_blank _ _ c.position.result c.position.ensures.ran (YieldsList-from_slice c.args.text.now cc) (λ x b q k. search (rules, tests)) in
    c.unwrap_or.ensures ∙ ap (λ (o : Option ℕ). unwrap_or o (length c.args.text.now)) found ∙ first_place is_blank c.args.text.now
