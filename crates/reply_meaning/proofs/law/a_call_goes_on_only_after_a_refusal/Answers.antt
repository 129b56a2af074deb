use Rattle.reply_meaning.proofs.Clients.{goes_on}
use Rattle.reply_meaning.proofs.law.a_call_goes_on_only_after_a_refusal.Goals as goal

pub returns : goal.returns
returns c = goes_on
