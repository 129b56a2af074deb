use Rattle.hash.proofs.HoleLemmas.{count_removed, count_missing}
use Rattle.hash.proofs.holed.Holed.remove.Goals as goal

pub invariant_of-self : goal.invariant_of-self
invariant_of-self c = count_missing _ _ c.args.field.now c.self.inside.len c.self.invariant c.in_err-old.ensures.pairs c.in_err-old.ensures.old

pub invariant_of-self-then-len-self : goal.invariant_of-self-then-len-self
invariant_of-self-then-len-self c = (count_removed _ _ c.args.field.now c.in_ok-old.old c.self.inside.len c.self.invariant c.in_ok-old.ensures.pairs c.in_ok-old.ensures.old).fewer

pub invariant_of-self-else-len-self : goal.invariant_of-self-else-len-self
invariant_of-self-else-len-self c = (count_removed _ _ c.args.field.now c.in_ok-old.old c.self.inside.len c.self.invariant c.in_ok-old.ensures.pairs c.in_ok-old.ensures.old).fewer
