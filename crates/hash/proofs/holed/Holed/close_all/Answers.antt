use Rattle.std.proofs.Common.{length, sym, ap, ◌∙◌}
use Rattle.hash.proofs.HoleLemmas.{left-all}
use Rattle.hash.proofs.holed.Holed.close_all.Goals as goal

pub invariant_of-self : goal.invariant_of-self
invariant_of-self c = c.self.invariant ∙ sym (ap length (left-all c.close_all.new.map.entries c.new.result.keys c.new.ensures.empty ∙ c.close_all.ensures.pairs))

pub returns-clause-pairs : goal.returns-clause-pairs
returns-clause-pairs c = rw (← c.self.view_is) (left-all c.close_all.new.map.entries c.new.result.keys c.new.ensures.empty ∙ c.close_all.ensures.pairs)
