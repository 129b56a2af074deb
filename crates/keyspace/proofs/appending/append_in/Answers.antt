use Rattle.std.proofs.Common.{ap, sym, ◌∙◌}
use Rattle.std.proofs.lemmas.Cmp.{nat_list_cmp_total}
use Rattle.std.specs.FinMap as map
use Rattle.std.specs.Map.{lookup}
use Rattle.std.specs.Prelude.{is_some}
use Rattle.key_map.specs.KeyMap.{KeyMap}
use Rattle.keyspace.proofs.Applied.{is_key}
use Rattle.keyspace.proofs.InPlace.{ok_leads, err_leads, put_back, first_bytes, more_bytes}
use Rattle.keyspace.proofs.Maps.{get_seen, seen_insert}
use Rattle.keyspace.specs.Keyspace.{keyspace_of, with_appended}
use Rattle.keyspace.specs.declared.value.Value.{Value}
use Rattle.keyspace.proofs.appending.append_in.Goals as goal

pub returns-in_default-clause-ok : goal.returns-in_default-clause-ok
returns-in_default-clause-ok c =
    let none =
    get_seen nat_list_cmp_total c.get_mut.follows.lender-at-none.entries c.args.key
    ∙ ap (λ (m : KeyMap Value). lookup (is_key c.args.key) m.entries) c.get_mut.follows.holds-at-none ∙ sym c.in_default.ensures.value in
    let put = seen_insert nat_list_cmp_total (map.slice_cmp-IsAntisymmetric map.nat_cmp-IsAntisymmetric) _ _ _ _ c.in_ok-_none.ensures.updates in
    first_bytes _ _ c.args.key c.args.bytes none put ∙ ap (λ (m : KeyMap Value). with_appended (keyspace_of m.entries) c.args.key c.args.bytes) c.get_mut.follows.holds-at-none

pub returns-clause-ok : goal.returns-clause-ok
returns-clause-ok c =
    let w = c.append_to.new.value in
    let found = sym c.in-Some.ensures.value in
    let has = get_seen nat_list_cmp_total c.args.entries.now.entries c.args.key ∙ found in
    let put = seen_insert nat_list_cmp_total (map.slice_cmp-IsAntisymmetric map.nat_cmp-IsAntisymmetric) _ _ _ _ ((c.get_mut.follows.holds w).1 (ap is_some found)) in
    ok_leads c.append_to.result (more_bytes _ _ c.args.key c.args.bytes _ _ has put) c.append_to.ensures.ok

pub returns-clause-err : goal.returns-clause-err
returns-clause-err c =
    let w = c.append_to.new.value in
    let found = sym c.in-Some.ensures.value in
    let has = get_seen nat_list_cmp_total c.args.entries.now.entries c.args.key ∙ found in
    let put = seen_insert nat_list_cmp_total (map.slice_cmp-IsAntisymmetric map.nat_cmp-IsAntisymmetric) _ _ _ _ ((c.get_mut.follows.holds w).1 (ap is_some found)) in
    err_leads c.append_to.result (put_back _ _ c.args.key _ _ has put) c.append_to.ensures.err
