use Rattle.resp2.proofs.ReplyLaws.{replies_are_read_in_one_way}
use Rattle.resp2.proofs.law.replies_are_read_in_one_way.Goals as goal

pub returns : goal.returns
returns c = replies_are_read_in_one_way
