use Rattle.std.proofs.Common.{refl, ap, arith}
use Rattle.std.specs.Vec.{with_item}
use Rattle.key_map.specs.declared.few.Few.{Few}
use Rattle.key_map.proofs.Places.{pair_at}
use Rattle.key_map.proofs.few.Few.value_mut.Goals as goal

pub returns : goal.returns
returns g c =
    let pairs = c.args.self.now.pairs in
    let pair = pair_at pairs.items c.args.at c.index_mut-pair.result.now (omega (arith, c.requires, pairs.ok.0)) c.index_mut-pair.ensures.value in
    let few : g.row.V.Denot → _ → Few g.row.V.Denot = λ w key. record { pairs = with_item pairs c.args.at (key, w) } in
    ((refl, λ w. ap (few w) pair.0), record { lends = tt; value = pair.1 })
