use Rattle.keyspace.proofs.Replayed as replayed
use Rattle.keyspace.proofs.replay.rebuilding_makes_the_keyspace.Goals as goal

pub returns : goal.returns
returns c = replayed.requests_of_keys_leave_them
