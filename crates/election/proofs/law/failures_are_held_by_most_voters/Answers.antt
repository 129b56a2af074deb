use Rattle.election.proofs.HistoryLemmas.{fails_by_most_voters}
use Rattle.election.proofs.law.failures_are_held_by_most_voters.Goals as goal

pub returns : goal.returns
returns c = fails_by_most_voters
