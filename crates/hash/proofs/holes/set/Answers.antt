use Rattle.std.proofs.Common.{Some, ap, ◌∙◌}
use Rattle.hash.proofs.HoleLemmas.{value_there, left-set}
use Rattle.hash.specs.Holed.{left_of}
use Rattle.hash.specs.Pairs.{Pairs, value_of, field_changed}
use Rattle.hash.proofs.holes.set.Goals as goal

pub returns-clause-old : goal.returns-clause-old
returns-clause-old c =
    c.set.ensures.old ∙ value_there c.close.new.map.entries c.close.new.removed.keys c.args.field c.close.ensures.left
    ∙ ap (λ (pairs : Pairs). value_of pairs c.args.field) c.close.ensures.pairs

pub returns-clause-pairs : goal.returns-clause-pairs
returns-clause-pairs c =
    ap (λ (pairs : Pairs). left_of pairs c.close.new.removed.keys) c.set.ensures.pairs
    ∙ left-set c.args.field c.close.new.removed.keys c.close.ensures.left c.args.value c.close.new.map.entries
    ∙ ap (λ (pairs : Pairs). field_changed pairs c.args.field (Some c.args.value)) c.close.ensures.pairs
