use Rattle.keyspace.proofs.KeysLeft.{appended_there}
use Rattle.keyspace.proofs.leaving.step_leaves_keys.Goals as goal

pub returns-in-Append : goal.returns-in-Append
returns-in-Append c = rw c.in-Append.is (appended_there _ _ _)
