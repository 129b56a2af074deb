use Rattle.resp_values.proofs.ArrayLaws.{array_is_one_deeper}
use Rattle.resp_values.proofs.law.array_is_one_deeper.Goals as goal

pub returns : goal.returns
returns c = array_is_one_deeper
