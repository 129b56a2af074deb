use Rattle.std.proofs.Common.{ap}
use Rattle.std.specs.Option.{option_copied}
use Rattle.keyspace.proofs.RemovedFields.{missing_distinct}
use Rattle.keyspace.proofs.hash_at.len_of.Goals as goal

pub returns-in-None-clause-distinct : goal.returns-in-None-clause-distinct
returns-in-None-clause-distinct c = missing_distinct (option_copied c.args.hash) (ap option_copied c.in-None.is)
