use Rattle.std.proofs.Common.{◌∙◌}
use Rattle.keyspace.proofs.Parted.{on_ok_then}
use Rattle.keyspace.proofs.Committed.{step_alone}
use Rattle.keyspace.proofs.plans.put_and_step.Goals as goal

pub returns-then-is_empty-clause-ok : goal.returns-then-is_empty-clause-ok
returns-then-is_empty-clause-ok g c =
    on_ok_then c.make_step.result (λ is. is ∙ step_alone _ c.args.values c.args.step (c.is_empty.ensures c.if-is_empty.true)) c.make_step.ensures.ok
