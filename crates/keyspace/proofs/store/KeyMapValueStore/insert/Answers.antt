use Rattle.std.proofs.Common.{sym, ap, subst, ◌≡◌, ◌∙◌, true≢false}
use Rattle.std.proofs.lemmas.Cmp.{nat_list_cmp_total}
use Rattle.std.specs.FinMap as map
use Rattle.std.specs.Prelude.{IfOk, is_some}
use Rattle.keyspace.proofs.Parted.{ok_unless, on_ok_then}
use Rattle.keyspace.proofs.Maps.{get_seen, seen_insert}
use Rattle.keyspace.proofs.store.KeyMapValueStore.insert.Goals as goal

pub returns-clause-old : goal.returns-clause-old
returns-clause-old c = subst (λ found. IfOk c.insert.result (λ old. old ≡ found)) (sym (get_seen nat_list_cmp_total _ _)) c.insert.ensures.old

pub returns-clause-ok : goal.returns-clause-ok
returns-clause-ok c =
    on_ok_then c.insert.result (seen_insert nat_list_cmp_total (map.slice_cmp-IsAntisymmetric map.nat_cmp-IsAntisymmetric) _ _ _ _) c.insert.ensures.updates

-- a key that the map refuses isn't there
pub returns-clause-over : goal.returns-clause-over
returns-clause-over c = λ there.
    ok_unless c.insert.result (λ absent. absurd (true≢false (sym there ∙ ap is_some (get_seen nat_list_cmp_total _ _ ∙ absent)))) c.insert.ensures.absent
