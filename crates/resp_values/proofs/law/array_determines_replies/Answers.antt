use Rattle.resp_values.proofs.ArrayLaws.{array_determines_replies}
use Rattle.resp_values.proofs.law.array_determines_replies.Goals as goal

pub returns : goal.returns
returns c = array_determines_replies
