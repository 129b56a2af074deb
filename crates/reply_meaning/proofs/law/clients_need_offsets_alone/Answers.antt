use Rattle.reply_meaning.proofs.Reasons.{need_offsets_alone}
use Rattle.reply_meaning.proofs.law.clients_need_offsets_alone.Goals as goal

pub returns : goal.returns
returns c = need_offsets_alone
