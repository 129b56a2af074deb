use Rattle.std.proofs.Common.{refl, ap, ◌∙◌}
use Rattle.keyspace.proofs.Applied.{applied_empty}
use Rattle.keyspace.proofs.Committed.{committed_step}
use Rattle.keyspace.specs.Changes.{applied}
use Rattle.keyspace.specs.Keyspace.{Keyspace}
use Rattle.keyspace.specs.Putting.{with_pairs}
use Rattle.keyspace.proofs.plans.Plan.putting.Goals as goal

pub returns : goal.returns
returns c keyspace =
    committed_step keyspace _ _ refl
    ∙ ap (λ (m : Keyspace). with_pairs m c.args.pairs.items) (ap (applied keyspace) c.new.ensures ∙ applied_empty keyspace)
