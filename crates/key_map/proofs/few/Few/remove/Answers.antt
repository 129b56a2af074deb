use Rattle.std.proofs.Common.{sym, ◌∙◌, arith}
use Rattle.key_map.proofs.Places.{found, missing, pair_at}
use Rattle.key_map.proofs.few.Few.remove.Goals as goal

pub remove-key-requires : goal.remove-key-requires
remove-key-requires g c =
    let pairs = c.args.self.now.pairs in
    omega (arith, (found c.args.key.now pairs.items c.in-Ok.at (sym c.in-Ok.ensures)).within, pairs.ok.0)

pub returns-in-Ok-clause-value : goal.returns-in-Ok-clause-value
returns-in-Ok-clause-value g c =
    let items = c.args.self.now.pairs.items in
    let there = found c.args.key.now items c.in-Ok.at (sym c.in-Ok.ensures) in
    sym (there.value ∙ (pair_at items c.in-Ok.at _ there.within c.remove-key.ensures.value).1)

pub returns-in-Ok-clause-pairs : goal.returns-in-Ok-clause-pairs
returns-in-Ok-clause-pairs g c =
    c.remove-key.ensures.items ∙ (found c.args.key.now c.args.self.now.pairs.items c.in-Ok.at (sym c.in-Ok.ensures)).removes

pub returns-in-Err-clause-value : goal.returns-in-Err-clause-value
returns-in-Err-clause-value g c = sym (missing c.args.key.now c.args.self.now.pairs.items _ c.requires (sym c.in-Err.ensures)).none

pub returns-in-Err-clause-pairs : goal.returns-in-Err-clause-pairs
returns-in-Err-clause-pairs g c = (missing c.args.key.now c.args.self.now.pairs.items _ c.requires (sym c.in-Err.ensures)).stays
