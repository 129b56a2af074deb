use Rattle.std.proofs.Common.{◌∙◌, ap, arith}
use Rattle.std.specs.List.{insert}
use Rattle.key_map.proofs.Places.{puts_new}
use Rattle.key_map.proofs.few.Few.insert.Goals as goal

pub insert-requires : goal.insert-requires
insert-requires g c =
    let pairs = c.args.self.now.pairs in
    omega (arith, (puts_new c.args.key c.args.value pairs.items c.args.at c.requires).0, pairs.ok.0, c.reserve_exact.ensures.len)

pub returns-clause-ok : goal.returns-clause-ok
returns-clause-ok g c =
    c.in_ok-insert.ensures.items ∙ ap (λ pairs. insert pairs c.args.at (c.args.key, c.args.value)) c.reserve_exact.ensures.items
    ∙ (puts_new c.args.key c.args.value c.args.self.now.pairs.items c.args.at c.requires).1
