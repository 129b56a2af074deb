use Rattle.keyspace.proofs.Parts as parts
use Rattle.keyspace.proofs.law.commands_execute_in_a_part.Goals as goal

pub returns : goal.returns
returns c = parts.commands_execute_in_a_part
