use Rattle.keyspace.proofs.KeysLeft.{any_stays_left}
use Rattle.std.proofs.Common.{◌∙◌}
use Rattle.keyspace.proofs.leaving.leaves_beside.Goals as goal

pub returns-else-put_beside : goal.returns-else-put_beside
returns-else-put_beside c = c.any_stays.ensures ∙ any_stays_left _ _ _ (c.put_beside.ensures.none c.if-put_beside.false)
