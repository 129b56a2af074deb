use Rattle.single_keyspace.proofs.Worlds as worlds
use Rattle.single_keyspace.proofs.law.replies_are_those_of_one_keyspace.Goals as goal

pub returns : goal.returns
returns c = worlds.law
