use Rattle.resp2.proofs.ReplyLaws.{no_reply_begins_another}
use Rattle.resp2.proofs.law.no_reply_begins_another.Goals as goal

pub returns : goal.returns
returns c = no_reply_begins_another
