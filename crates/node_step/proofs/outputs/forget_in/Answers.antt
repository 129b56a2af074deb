use Rattle.std.proofs.Common.{rules}
use Rattle.std.proofs.lemmas.Fn.{filter_same}
use Rattle.node_step.proofs.outputs.forget_in.Goals as goal

pub returns : goal.returns
returns c = filter_same _ _ _ (λ release b f called. search rules) _ _ c.retain.ensures.filtered
