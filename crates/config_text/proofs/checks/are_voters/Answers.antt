use Rattle.std.proofs.Common.{◌≡◌, rules, tests}
use Rattle.std.specs.List.{list_all}
use Rattle.std.proofs.lemmas.Iterator.{YieldsList-from_slice}
use Rattle.std.proofs.lemmas.Iterator.Search.{all_from_yields_List}
use Rattle.config_text.specs.Faults.{differ, is_known}
use Rattle.config_text.proofs.checks.are_voters.Goals.{then-all, else-all}
use Rattle.config_text.proofs.checks.are_voters.Goals as goal

pub returns-then-not-is_empty : goal.returns-then-not-is_empty
returns-then-not-is_empty c =
    let known : c.all.result ≡ list_all (is_known c.args.nodes.now) c.args.voters.now = all_from_yields_List (is_known c.args.nodes.now) _ _ c.all.result c.all.ensures.ran (YieldsList-from_slice c.args.voters.now cc) (λ x b q k. search (rules, tests)) in
    let once = c.all_pairs.ensures differ (λ x y b k. search rules) in
    elim c.if-all.branch [
      | then-all w ↦ search rules
      | else-all w ↦ search rules
    ]
