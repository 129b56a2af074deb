use Rattle.election.proofs.MajorityLemmas.{elects_the_first_majority}
use Rattle.election.proofs.law.the_first_majority_elects.Goals as goal

pub returns : goal.returns
returns c = elects_the_first_majority
