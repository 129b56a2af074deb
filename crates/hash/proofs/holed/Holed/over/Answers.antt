use Rattle.std.proofs.Common.{length, sym, ap, ◌∙◌}
use Rattle.hash.proofs.HoleLemmas.{left-all}
use Rattle.hash.proofs.holed.Holed.over.Goals as goal

pub invariant_of-result : goal.invariant_of-result
invariant_of-result c = c.len-len.ensures.len ∙ sym (ap length (left-all c.args.map.entries c.new.result.keys c.new.ensures.empty))

pub returns-clause-pairs : goal.returns-clause-pairs
returns-clause-pairs c = left-all c.args.map.entries c.new.result.keys c.new.ensures.empty
