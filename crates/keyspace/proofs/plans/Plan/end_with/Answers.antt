use Rattle.std.proofs.Common.{refl}
use Rattle.keyspace.proofs.Committed.{committed_step}
use Rattle.keyspace.proofs.plans.Plan.end_with.Goals as goal

pub returns : goal.returns
returns c keyspace = committed_step keyspace _ _ refl
