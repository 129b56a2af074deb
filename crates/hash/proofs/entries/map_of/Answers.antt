use Rattle.std.proofs.Common.{rules}
use Rattle.hash.proofs.DistinctLemmas.{put_in_order}
use Rattle.hash.proofs.entries.map_of.Goals as goal

pub returns-clause-pairs : goal.returns-clause-pairs
returns-clause-pairs c = put_in_order _ c.deref_mut.result.now.entries c.replace.result.items c.args.pairs.now.items c.fill.ensures.pairs (search rules) (search rules) c.requires.distinct
