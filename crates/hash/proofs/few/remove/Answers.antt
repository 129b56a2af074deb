use Rattle.std.proofs.Common.{rules, ◌≡◌, ℕ, List, position, Some, None, sym, ap, ◌∙◌}
use Rattle.hash.specs.Entries.{is_of}
use Rattle.hash.proofs.PlaceLemmas.{missing_from, stands_at}
use Rattle.hash.proofs.few.remove.Goals as goal

pub returns-in_err-place-clause-old : goal.returns-in_err-place-clause-old
returns-in_err-place-clause-old c =
    let none : position (is_of c.args.field.now) c.args.pairs.now.items ≡ None = search rules in
    let given : c.from_residual.result ≡ None = search rules in
    given ∙ sym (missing_from c.args.pairs.now.items c.args.field.now none).value

pub returns-in_err-place-clause-pairs : goal.returns-in_err-place-clause-pairs
returns-in_err-place-clause-pairs c =
    let none : position (is_of c.args.field.now) c.args.pairs.now.items ≡ None = search rules in
    sym (missing_from c.args.pairs.now.items c.args.field.now none).same

pub returns-clause-old : goal.returns-clause-old
returns-clause-old c =
    let there : position (is_of c.args.field.now) c.args.pairs.now.items ≡ Some c.in_ok-place.place = search rules in
    ap (λ (pair : List ℕ × List ℕ). Some pair.1) c.remove.ensures.value
    ∙ sym (stands_at c.args.pairs.now.items c.args.field.now c.in_ok-place.place c.remove.result there).value

pub returns-clause-pairs : goal.returns-clause-pairs
returns-clause-pairs c =
    let there : position (is_of c.args.field.now) c.args.pairs.now.items ≡ Some c.in_ok-place.place = search rules in
    c.remove.ensures.items ∙ sym (stands_at c.args.pairs.now.items c.args.field.now c.in_ok-place.place c.remove.result there).removed
