use Rattle.smart_client.proofs.CauseLemmas.{faults_have_causes}
use Rattle.smart_client.proofs.law.faults_have_causes.Goals as goal

pub returns : goal.returns
returns c = faults_have_causes
