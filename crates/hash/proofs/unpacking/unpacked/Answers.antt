use Rattle.hash.proofs.DistinctLemmas.{set_in_order}
use Rattle.hash.proofs.unpacking.unpacked.Goals as goal

pub returns : goal.returns
returns c = set_in_order _ _ _ _ c.in_ok-change.ensures.ok c.new-large.ensures c.in_ok-settings.ensures c.len.ensures.distinct
