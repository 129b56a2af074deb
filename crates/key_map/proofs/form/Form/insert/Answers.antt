use Rattle.std.proofs.Common.{sym, ap, subst, ◌∙◌, arith}
use Rattle.std.specs.BTreeMap.{insert_entry}
use Rattle.std.specs.Map.{lookup}
use Rattle.key_map.specs.Form.{entries_of}
use Rattle.key_map.specs.KeyMap.{IsRising, is_key}
use Rattle.key_map.proofs.Outcomes.{on_err}
use Rattle.key_map.proofs.Places.{compare, found, missing}
use Rattle.key_map.proofs.form.Form.insert.Goals as goal

pub replace-requires : goal.replace-requires
replace-requires g c =
    let pairs = c.in-Few.few.pairs in
    omega (arith, (found c.args.key pairs.items c.in-Ok.at (sym c.in-Ok.ensures)).within, pairs.ok.0)

pub returns-in_err-insert-in-Err-clause-absent : goal.returns-in_err-insert-in-Err-clause-absent
returns-in_err-insert-in-Err-clause-absent g c =
    let rising = subst (λ form. IsRising (entries_of form)) c.in-Few.is c.requires in
    on_err c.from_residual.result (
    ap (λ form. lookup (is_key c.args.key) (entries_of form)) c.in-Few.is ∙ (missing c.args.key c.in-Few.few.pairs.items _ rising (sym c.in-Err.ensures)).none)

pub returns-in_err-tree_with-in-Err-2-clause-absent : goal.returns-in_err-tree_with-in-Err-2-clause-absent
returns-in_err-tree_with-in-Err-2-clause-absent g c =
    let rising = subst (λ form. IsRising (entries_of form)) c.in-Few.is c.requires in
    on_err c.from_residual-in_err-tree_with-in-Err-2.result (
    ap (λ form. lookup (is_key c.args.key) (entries_of form)) c.in-Few.is ∙ (missing c.args.key c.in-Few.few.pairs.items _ rising (sym c.in-Err-2.ensures)).none)

pub returns-in-Ok-clause-old : goal.returns-in-Ok-clause-old
returns-in-Ok-clause-old g c =
    sym (
    ap (λ form. lookup (is_key c.args.key) (entries_of form)) c.in-Few.is
    ∙ (found c.args.key c.in-Few.few.pairs.items c.in-Ok.at (sym c.in-Ok.ensures)).value ∙ c.replace.ensures.value)

pub returns-in-Ok-clause-entries : goal.returns-in-Ok-clause-entries
returns-in-Ok-clause-entries g c =
    c.replace.ensures.pairs ∙ (found c.args.key c.in-Few.few.pairs.items c.in-Ok.at (sym c.in-Ok.ensures)).puts c.args.value
    ∙ ap (λ form. insert_entry compare (entries_of form) c.args.key c.args.value) (sym c.in-Few.is)

pub returns-in_ok-insert-in-Err-clause-old : goal.returns-in_ok-insert-in-Err-clause-old
returns-in_ok-insert-in-Err-clause-old g c =
    let rising = subst (λ form. IsRising (entries_of form)) c.in-Few.is c.requires in
    sym (ap (λ form. lookup (is_key c.args.key) (entries_of form)) c.in-Few.is ∙ (missing c.args.key c.in-Few.few.pairs.items _ rising (sym c.in-Err.ensures)).none)

pub returns-in_ok-tree_with-in-Err-2-clause-old : goal.returns-in_ok-tree_with-in-Err-2-clause-old
returns-in_ok-tree_with-in-Err-2-clause-old g c =
    let rising = subst (λ form. IsRising (entries_of form)) c.in-Few.is c.requires in
    sym (ap (λ form. lookup (is_key c.args.key) (entries_of form)) c.in-Few.is ∙ (missing c.args.key c.in-Few.few.pairs.items _ rising (sym c.in-Err-2.ensures)).none)
