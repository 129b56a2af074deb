use Rattle.std.proofs.Common.{rules, ◌≡◌, position, Some, None, option_copied, sym, ap, ◌∙◌}
use Rattle.hash.specs.Entries.{is_of}
use Rattle.hash.proofs.PlaceLemmas.{missing_from, stands_at}
use Rattle.hash.proofs.few.value_in.Goals as goal

pub returns-in_err-place : goal.returns-in_err-place
returns-in_err-place c =
    let none : position (is_of c.args.field.now) c.args.pairs.now ≡ None = search rules in
    let given : c.from_residual.result ≡ None = search rules in
    ap option_copied given ∙ sym (missing_from c.args.pairs.now c.args.field.now none).value

pub returns : goal.returns
returns c =
    let there : position (is_of c.args.field.now) c.args.pairs.now ≡ Some c.in_ok-place.place = search rules in
    sym (stands_at c.args.pairs.now c.args.field.now c.in_ok-place.place c.index-pairs-place.result there).value
