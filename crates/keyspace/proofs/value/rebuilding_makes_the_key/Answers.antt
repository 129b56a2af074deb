use Rattle.keyspace.proofs.Rebuilt.{rebuilds}
use Rattle.keyspace.proofs.value.rebuilding_makes_the_key.Goals as goal

pub returns : goal.returns
returns c = rebuilds
