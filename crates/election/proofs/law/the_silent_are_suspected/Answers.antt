use Rattle.election.proofs.HistoryLemmas.{suspects_the_silent}
use Rattle.election.proofs.law.the_silent_are_suspected.Goals as goal

pub returns : goal.returns
returns c = suspects_the_silent
