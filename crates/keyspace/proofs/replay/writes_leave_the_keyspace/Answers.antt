use Rattle.keyspace.proofs.Replayed as replayed
use Rattle.keyspace.proofs.replay.writes_leave_the_keyspace.Goals as goal

pub returns : goal.returns
returns c = replayed.writes_leave_all
