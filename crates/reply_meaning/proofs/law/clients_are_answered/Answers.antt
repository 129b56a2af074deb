use Rattle.reply_meaning.proofs.Laws.{client_is_answered}
use Rattle.reply_meaning.proofs.law.clients_are_answered.Goals as goal

pub returns : goal.returns
returns c = client_is_answered
