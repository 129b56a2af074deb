use Rattle.keyspace.proofs.Replayed as replayed
use Rattle.keyspace.proofs.replay.requests_execute_their_commands.Goals as goal

pub returns : goal.returns
returns c = replayed.requests_execute_commands
