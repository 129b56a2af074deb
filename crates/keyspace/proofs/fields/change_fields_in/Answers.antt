use Rattle.std.proofs.Common.{ap, sym, ◌∙◌, Some, None}
use Rattle.std.proofs.lemmas.Cmp.{nat_list_cmp_total}
use Rattle.std.specs.FinMap as map
use Rattle.std.specs.Map.{lookup}
use Rattle.std.specs.Prelude.{is_some}
use Rattle.key_map.specs.KeyMap.{KeyMap}
use Rattle.keyspace.proofs.Applied.{is_key}
use Rattle.keyspace.proofs.InPlace.{if_true, if_false, on_err, put_back, put_changed, removed_again}
use Rattle.keyspace.proofs.Maps.{get_seen, seen_insert}
use Rattle.keyspace.specs.declared.value.Value.{Value}
use Rattle.keyspace.proofs.fields.change_fields_in.Goals as goal

pub put_new_hash-requires : goal.put_new_hash-requires
put_new_hash-requires c =
    get_seen nat_list_cmp_total _ c.args.key ∙ ap (λ (m : KeyMap Value). lookup (is_key c.args.key) m.entries) c.get_mut.follows.holds-at-none ∙ sym c.in_default.ensures.value

pub returns-in_err-change_value-clause-err : goal.returns-in_err-change_value-clause-err
returns-in_err-change_value-clause-err c =
    let w = c.change_value.new.value in
    let found = sym c.in-Some.ensures.value in
    let has = get_seen nat_list_cmp_total c.args.entries.now.entries c.args.key ∙ found in
    let put = seen_insert nat_list_cmp_total (map.slice_cmp-IsAntisymmetric map.nat_cmp-IsAntisymmetric) _ _ _ _ ((c.get_mut.follows.holds w).1 (ap is_some found)) in
    on_err c.from_residual.result (put_back _ _ c.args.key _ _ has put c.in_err-change_value.ensures.err)

pub returns-then-branch-clause-ok : goal.returns-then-branch-clause-ok
returns-then-branch-clause-ok c =
    let w = c.change_value.new.value in
    let found = sym c.in-Some.ensures.value in
    let has = get_seen nat_list_cmp_total c.args.entries.now.entries c.args.key ∙ found in
    let put = seen_insert nat_list_cmp_total (map.slice_cmp-IsAntisymmetric map.nat_cmp-IsAntisymmetric) _ _ _ _ ((c.get_mut.follows.holds w).1 (ap is_some found)) in
    put_changed _ c.args.key c.args.changes.items _ _ _ has put (if_true _ (Some w) None _ c.in_ok-change_value.ensures.left c.if-branch.true)

pub returns-clause-ok : goal.returns-clause-ok
returns-clause-ok c =
    let w = c.change_value.new.value in
    let found = sym c.in-Some.ensures.value in
    let has = get_seen nat_list_cmp_total c.args.entries.now.entries c.args.key ∙ found in
    let put = seen_insert nat_list_cmp_total (map.slice_cmp-IsAntisymmetric map.nat_cmp-IsAntisymmetric) _ _ _ _ ((c.get_mut.follows.holds w).1 (ap is_some found)) in
    removed_again _ c.args.key c.args.changes.items _ _ _ has put _ (if_false _ (Some w) None _ c.in_ok-change_value.ensures.left c.if-branch.false) c.remove_from.ensures
