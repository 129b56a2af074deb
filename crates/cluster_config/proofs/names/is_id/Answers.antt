use Rattle.std.proofs.Common.{rules, tests}
use Rattle.std.proofs.lemmas.Iterator.{YieldsList-from_slice}
use Rattle.std.proofs.lemmas.Iterator.Search.{all_from_yields_List}
use Rattle.cluster_config.specs.Texts.{is_id_digit}
use Rattle.cluster_config.proofs.names.is_id.Goals as goal

pub returns-then-text-eq-LEN : goal.returns-then-text-eq-LEN
returns-then-text-eq-LEN c =
    rw c.if-text-eq-LEN.true (all_from_yields_List is_id_digit _ _ c.all.result c.all.ensures.ran (YieldsList-from_slice c.args.text.now cc) (λ x b q k. search (rules, tests)))
