use Rattle.std.proofs.Common.{◌∙◌, ap, rules, tests, ℕ, Option, length}
use Rattle.std.specs.Option.{unwrap_or}
use Rattle.std.specs.Str.{bytes_eq}
use Rattle.std.proofs.lemmas.Iterator.{YieldsList-from_slice}
use Rattle.std.proofs.lemmas.Iterator.Search.{position_from_yields_List}
use Rattle.config_text.specs.declared.form.NodeDraft.{NodeDraft}
use Rattle.cluster_config.proofs.PlaceLemmas.{first_place}
use Rattle.config_text.proofs.checks.number_of.Goals as goal

pub returns : goal.returns
returns c =
    let has_id = λ (node : NodeDraft). bytes_eq node.id c.args.id.now in
    let found = position_from_yields_List has_id _ _ c.position-found.result c.position-found.ensures.ran (YieldsList-from_slice c.args.nodes.now cc) (λ x b q k. search (rules, tests)) in
    c.unwrap_or.ensures ∙ ap (λ (o : Option ℕ). unwrap_or o (length c.args.nodes.now)) found ∙ first_place has_id c.args.nodes.now
