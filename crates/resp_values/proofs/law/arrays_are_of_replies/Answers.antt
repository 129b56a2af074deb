use Rattle.resp_values.proofs.ArrayLaws.{arrays_are_of_replies}
use Rattle.resp_values.proofs.law.arrays_are_of_replies.Goals as goal

pub returns : goal.returns
returns c = arrays_are_of_replies
