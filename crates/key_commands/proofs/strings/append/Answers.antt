use Rattle.std.proofs.Common.{rules, arith, length, length-append, ◌≡◌, ◌++◌, Some, true, false, sym, ◌∙◌}
use Rattle.std.specs.FinMap as map
use Rattle.keyspace.proofs.Committed.{committed_values}
use Rattle.key_commands.proofs.Left.{fit_behind, fits_word, too_many_behind}
use Rattle.keyspace.specs.Changes.{applied}
use Rattle.keyspace.specs.Keyspace.{with_appended}
use Rattle.keyspace.specs.Strings.{fits_string, string_of}
use Rattle.key_commands.proofs.strings.append.Goals as goal

pub returns-then-not-length_fits : goal.returns-then-not-length_fits
returns-then-not-length_fits g c =
    let contents = g.S.Store.contents c.args.store.now in
    let before = applied contents c.args.plan.now.values in
    let old = c.in-Some.old.now in
    let is : string_of (map.get before c.args.key.now) ≡ Some old = search rules in
    let told : c.length_fits.result ≡ fits_string c.args.key.now (old ++ c.args.value.now) = c.length_fits.ensures (old ++ c.args.value.now) (omega (arith, length-append old c.args.value.now)) in
    let no : c.length_fits.result ≡ false = search rules in
    (λ i. record { reply = c.reply-then-not-length_fits.ensures i; after = committed_values contents c.args.plan.now c.requires i })
    ∙ too_many_behind before c.args.key.now old c.args.value.now is (sym told ∙ no)

pub integer-requires : goal.integer-requires
integer-requires g c =
    let old = c.in-Some.old.now in
    let more = length-append old c.args.value.now in
    let told : c.length_fits.result ≡ fits_string c.args.key.now (old ++ c.args.value.now) = c.length_fits.ensures (old ++ c.args.value.now) (omega (arith, more)) in
    let yes : c.length_fits.result ≡ true = search rules in
    omega (arith, more, fits_word c.args.key.now (old ++ c.args.value.now) (sym told ∙ yes))

pub returns : goal.returns
returns g c =
    let contents = g.S.Store.contents c.args.store.now in
    let before = applied contents c.args.plan.now.values in
    let old = c.in-Some.old.now in
    let is : string_of (map.get before c.args.key.now) ≡ Some old = search rules in
    let more = length-append old c.args.value.now in
    let told : c.length_fits.result ≡ fits_string c.args.key.now (old ++ c.args.value.now) = c.length_fits.ensures (old ++ c.args.value.now) (omega (arith, more)) in
    let yes : c.length_fits.result ≡ true = search rules in
    let fits = sym told ∙ yes in
    let counted : c.saturating_add-len.result ≡ length (old ++ c.args.value.now) = omega (arith, more, fits_word c.args.key.now (old ++ c.args.value.now) fits) in
    let key : c.in_ok-clone.field-0 ≡ c.args.key.now = search rules in
    let value : c.in_ok-clone-2.field-0 ≡ c.args.value.now = search rules in
    let made = c.append.ensures contents ∙ (λ i. with_appended before (key i) (value i)) in
    (λ i. record { reply = c.integer.ensures i; after = made i }) ∙ fit_behind before c.args.key.now old c.args.value.now is fits c.saturating_add-len.result counted
