use Rattle.resp2.proofs.Theorems.{a_stream_is_read_in_one_way}
use Rattle.resp2.proofs.law.a_stream_is_read_in_one_way.Goals as goal

pub returns : goal.returns
returns c = a_stream_is_read_in_one_way
