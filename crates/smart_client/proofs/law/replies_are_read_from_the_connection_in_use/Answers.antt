use Rattle.smart_client.proofs.ReadLemmas.{replies_are_read}
use Rattle.smart_client.proofs.law.replies_are_read_from_the_connection_in_use.Goals as goal

pub returns : goal.returns
returns c = replies_are_read
