use Rattle.true_streams.proofs.Laws.{stay_on}
use Rattle.true_streams.proofs.law.replicas_stay_on_true_streams.Goals as goal

pub returns : goal.returns
returns c = stay_on
