use Rattle.std.proofs.Common.{rules, ◌≡◌, None, Some, ap, ◌∙◌}
use Rattle.std.specs.Prelude.{position}
use Rattle.node_step.specs.Released.{is_for}
use Rattle.node_step.specs.declared.outputs.Release.{Release}
use Rattle.node_step.proofs.Taking.{takes_at, takes_nothing}
use Rattle.node_step.proofs.outputs.take_from.Goals as goal

pub returns-in_err-place-clause-reply : goal.returns-in_err-place-clause-reply
returns-in_err-place-clause-reply c =
    let none : position (is_for c.args.conn) c.args.releases.now.items ≡ None = search rules in
    let given : c.from_residual.result ≡ None = search rules in
    given ∙ (takes_nothing c.args.conn c.args.releases.now.items none).reply

pub returns-in_err-place-clause-left : goal.returns-in_err-place-clause-left
returns-in_err-place-clause-left c =
    let none : position (is_for c.args.conn) c.args.releases.now.items ≡ None = search rules in
    (takes_nothing c.args.conn c.args.releases.now.items none).left

pub returns-clause-reply : goal.returns-clause-reply
returns-clause-reply c =
    let there : position (is_for c.args.conn) c.args.releases.now.items ≡ Some c.in_ok-place.place = search rules in
    ap (λ (release : Release). Some release.reply) c.remove.ensures.value
    ∙ (takes_at c.args.conn c.args.releases.now.items c.in_ok-place.place c.remove.result there).reply

pub returns-clause-left : goal.returns-clause-left
returns-clause-left c =
    let there : position (is_for c.args.conn) c.args.releases.now.items ≡ Some c.in_ok-place.place = search rules in
    rw (c.remove.ensures.items) (takes_at c.args.conn c.args.releases.now.items c.in_ok-place.place c.remove.result there).left
