use Rattle.std.proofs.Common.{sym, ◌∙◌, arith}
use Rattle.key_map.proofs.Places.{found, missing, pair_at}
use Rattle.key_map.proofs.few.Few.get.Goals as goal

pub index-requires : goal.index-requires
index-requires g c =
    let pairs = c.args.self.now.pairs in
    omega (arith, (found c.args.key.now pairs.items c.in-Ok.at (sym c.in-Ok.ensures)).within, pairs.ok.0)

pub returns-in-Ok : goal.returns-in-Ok
returns-in-Ok g c =
    let pairs = c.args.self.now.pairs in
    let there = found c.args.key.now pairs.items c.in-Ok.at (sym c.in-Ok.ensures) in
    sym (there.value ∙ (pair_at pairs.items c.in-Ok.at _ there.within c.index.ensures).1)

pub returns-in-Err : goal.returns-in-Err
returns-in-Err g c = sym (missing c.args.key.now c.args.self.now.pairs.items _ c.requires (sym c.in-Err.ensures)).none
