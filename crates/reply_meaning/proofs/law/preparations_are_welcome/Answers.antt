use Rattle.reply_meaning.proofs.Laws.{welcome}
use Rattle.reply_meaning.proofs.law.preparations_are_welcome.Goals as goal

pub returns : goal.returns
returns c = welcome
