use Rattle.std.proofs.Common.{sym, ◌∙◌}
use Rattle.std.proofs.lemmas.Cmp.{nat_list_cmp_total}
use Rattle.std.specs.FinMap as map
use Rattle.keyspace.proofs.InPlace.{first_fields, no_fields}
use Rattle.keyspace.proofs.Maps.{seen_insert}
use Rattle.keyspace.proofs.fields.put_new_hash.Goals as goal

pub returns-in_ok-_none-clause-ok : goal.returns-in_ok-_none-clause-ok
returns-in_ok-_none-clause-ok c =
    first_fields _ c.args.key c.args.changes.items _ _ c.requires (sym c.in_ok-value.ensures ∙ c.in-Some.is)
    (seen_insert nat_list_cmp_total (map.slice_cmp-IsAntisymmetric map.nat_cmp-IsAntisymmetric) _ _ _ _ c.in_ok-_none.ensures.updates)

pub returns-in_default-clause-ok : goal.returns-in_default-clause-ok
returns-in_default-clause-ok c = no_fields _ c.args.key c.args.changes.items c.requires (sym c.in_ok-value.ensures ∙ c.in_default.is)
