use Rattle.smart_client.proofs.LawLemmas.{sends_once}
use Rattle.smart_client.proofs.law.a_command_is_sent_again_only_after_a_refusal.Goals as goal

pub returns : goal.returns
returns c = sends_once
