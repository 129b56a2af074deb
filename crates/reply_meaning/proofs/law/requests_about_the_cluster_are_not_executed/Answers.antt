use Rattle.reply_meaning.proofs.Laws.{not_executed}
use Rattle.reply_meaning.proofs.law.requests_about_the_cluster_are_not_executed.Goals as goal

pub returns : goal.returns
returns c = not_executed
