use Rattle.std.specs.Map.{values_of}
use Rattle.std.proofs.lemmas.Iterator.{items_from_collect}
use Rattle.std.proofs.lemmas.Iterator.Consumers.{YieldsList-from_rest}
use Rattle.resharder.proofs.nodes.addresses.Goals as goal

pub returns : goal.returns
returns c = items_from_collect _ c.collect.ensures.ran (YieldsList-from_rest (values_of c.args.masters.entries) c.into_values.ensures.rest)
