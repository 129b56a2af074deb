use Rattle.election.proofs.BallotLemmas.{votes_once}
use Rattle.election.proofs.law.votes_once_an_epoch.Goals as goal

pub returns : goal.returns
returns c = votes_once
