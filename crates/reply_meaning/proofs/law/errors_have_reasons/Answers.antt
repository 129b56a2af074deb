use Rattle.reply_meaning.proofs.Reasons.{have_reasons}
use Rattle.reply_meaning.proofs.law.errors_have_reasons.Goals as goal

pub returns : goal.returns
returns c = have_reasons
