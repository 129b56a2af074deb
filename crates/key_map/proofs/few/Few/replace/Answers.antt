use Rattle.std.proofs.Common.{ap, ◌∙◌, arith}
use Rattle.key_map.specs.Few.{set_value_at}
use Rattle.key_map.proofs.Places.{pair_at}
use Rattle.key_map.proofs.few.Few.replace.Goals as goal

pub returns-clause-pairs : goal.returns-clause-pairs
returns-clause-pairs g c =
    let pairs = c.args.self.now.pairs in
    let pair = pair_at pairs.items c.args.at c.index_mut-pair.result.now (omega (arith, c.requires, pairs.ok.0)) c.index_mut-pair.ensures.value in
    pair.2 c.replace.new.dest ∙ ap (set_value_at pairs.items c.args.at) c.replace.ensures.after
