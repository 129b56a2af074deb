use Rattle.smart_client.proofs.LeadLemmas.{connections_lead}
use Rattle.smart_client.proofs.law.connections_lead_to_their_addresses.Goals as goal

pub returns : goal.returns
returns c = connections_lead
