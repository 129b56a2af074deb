use Rattle.resp2.proofs.ReplyLaws.{bytes_have_one_reply_front}
use Rattle.resp2.proofs.law.bytes_have_one_reply_front.Goals as goal

pub returns : goal.returns
returns c = bytes_have_one_reply_front
