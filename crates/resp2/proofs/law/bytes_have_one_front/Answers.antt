use Rattle.resp2.proofs.Fronts.{bytes_have_one_front}
use Rattle.resp2.proofs.law.bytes_have_one_front.Goals as goal

pub returns : goal.returns
returns c = bytes_have_one_front
