use Rattle.keyspace.proofs.Locality as locality
use Rattle.keyspace.proofs.law.commands_are_local.Goals as goal

pub returns : goal.returns
returns c = locality.commands_are_local
