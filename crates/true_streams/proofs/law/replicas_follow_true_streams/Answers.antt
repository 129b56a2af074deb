use Rattle.true_streams.proofs.Laws.{follow}
use Rattle.true_streams.proofs.law.replicas_follow_true_streams.Goals as goal

pub returns : goal.returns
returns c = follow
