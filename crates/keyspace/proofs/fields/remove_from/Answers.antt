use Rattle.std.proofs.lemmas.Cmp.{nat_list_cmp_total}
use Rattle.std.specs.FinMap as map
use Rattle.keyspace.proofs.Maps.{seen_remove}
use Rattle.keyspace.proofs.fields.remove_from.Goals as goal

pub returns : goal.returns
returns c = seen_remove nat_list_cmp_total (map.slice_cmp-IsAntisymmetric map.nat_cmp-IsAntisymmetric) _ _ _ c.remove-old.ensures.updates
