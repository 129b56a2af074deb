use Rattle.election.proofs.WaitingLemmas.{begins_after_its_wait}
use Rattle.election.proofs.law.an_election_begins_after_its_wait.Goals as goal

pub returns : goal.returns
returns c = begins_after_its_wait
