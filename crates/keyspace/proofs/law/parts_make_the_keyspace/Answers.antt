use Rattle.keyspace.proofs.Parts as parts
use Rattle.keyspace.proofs.law.parts_make_the_keyspace.Goals as goal

pub returns : goal.returns
returns c = parts.parts_make_the_keyspace
