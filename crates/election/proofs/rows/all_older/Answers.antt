use Rattle.election.specs.Failing.{older}
use Rattle.election.proofs.RowLemmas.{one_more_mapped}
use Rattle.election.proofs.rows.all_older.Goals as goal

pub loop-at-preserved : goal.loop-at-preserved
loop-at-preserved c = rw c.older.ensures (rw c.loop-at.invariant (one_more_mapped (older) c.args.ages c.loop-at.at 0))
