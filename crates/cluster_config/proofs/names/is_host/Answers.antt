use Rattle.std.proofs.Common.{◌≡◌, rules, tests}
use Rattle.std.specs.List.{list_all}
use Rattle.std.proofs.lemmas.Iterator.{YieldsList-from_slice}
use Rattle.std.proofs.lemmas.Iterator.Search.{all_from_yields_List}
use Rattle.cluster_config.specs.Texts.{is_host_character}
use Rattle.cluster_config.proofs.names.is_host.Goals as goal

pub returns-then-contains : goal.returns-then-contains
returns-then-contains c =
    let characters : c.all.result ≡ list_all is_host_character c.args.text.now = all_from_yields_List is_host_character _ _ c.all.result c.all.ensures.ran (YieldsList-from_slice c.args.text.now cc) (λ x b q k. search (rules, tests)) in
    search rules
