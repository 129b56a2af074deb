use Rattle.std.proofs.Common.{refl, sym, ◌∙◌, arith}
use Rattle.key_map.proofs.Places.{found, missing, value_at, writes_none}
use Rattle.key_map.proofs.few.Few.get_mut.Goals as goal

pub value_mut-requires : goal.value_mut-requires
value_mut-requires g c =
    let pairs = c.args.self.now.pairs in
    omega (arith, (found c.args.key.now pairs.items c.in-Ok.at (sym c.in-Ok.ensures)).within, pairs.ok.0)

pub returns-in-Ok : goal.returns-in-Ok
returns-in-Ok g c =
    let items = c.args.self.now.pairs.items in
    let there = found c.args.key.now items c.in-Ok.at (sym c.in-Ok.ensures) in (
      (refl, (λ w. value_at items c.in-Ok.at w there.within ∙ there.writes w), refl),
      record { lends = tt; value = sym (there.value ∙ c.value_mut.ensures.value) },
    )

pub returns-in-Err : goal.returns-in-Err
returns-in-Err g c =
    let items = c.args.self.now.pairs.items in
    let none = (missing c.args.key.now items _ c.requires (sym c.in-Err.ensures)).none in
    ((refl, (λ w. writes_none c.args.key.now w items none), refl), record { lends = tt; value = sym none })
