use Rattle.std.proofs.lemmas.Cmp.{nat_list_cmp_total}
use Rattle.std.proofs.lemmas.Map.Lookups.{exact_bytes}
use Rattle.keyspace.proofs.Maps.{seen_insert}
use Rattle.keyspace.proofs.changes.put.Goals as goal

pub returns-clause-ok : goal.returns-clause-ok
returns-clause-ok c = seen_insert nat_list_cmp_total exact_bytes _ _ _ _ c.in_ok-_former.ensures.updates.0
