use Rattle.std.proofs.Common.{◌∙◌, ap, sym, rules, tests, Bool, ◌&&◌}
use Rattle.std.proofs.lemmas.Iterator.{YieldsList-from_slice}
use Rattle.std.proofs.lemmas.Iterator.Search.{all_from_yields_List}
use Rattle.cluster_config.specs.Config.{all_pairs}
use Rattle.config_text.specs.Faults.{has_id, has_lower_id}
use Rattle.config_text.proofs.checks.are_ids.Goals as goal

pub returns-then-all : goal.returns-then-all
returns-then-all c =
    let ids = all_from_yields_List has_id _ _ c.all.result c.all.ensures.ran (YieldsList-from_slice c.args.nodes.now cc) (λ x b q k. search (rules, tests)) in
    c.all_pairs.ensures has_lower_id (λ x y b k. search rules) ∙ ap (λ (b : Bool). b && all_pairs has_lower_id c.args.nodes.now) (sym (sym ids ∙ c.if-all.true))
