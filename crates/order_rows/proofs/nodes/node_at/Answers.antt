use Rattle.std.proofs.Common.{◌≡◌, ◌<◌, ap, sym, ◌∙◌, Some, None, w64, rules, arith, length}
use Rattle.std.proofs.lemmas.Int.{to_z-of_z}
use Rattle.std.specs.List.{position}
use Rattle.node_step.specs.Copies.{is_at}
use Rattle.order_rows.proofs.Positions.{place_below}
use Rattle.order_rows.proofs.nodes.node_at.Goals as goal

pub returns-in_err-place : goal.returns-in_err-place
returns-in_err-place c =
    let same = to_z-of_z w64 c.args.port c.ranges.port in
    let none : c.from_residual.result ≡ None = search rules in
    none ∙ c.in_err-place.ensures ∙ ap (λ port. position (is_at c.args.host.now port) c.nodes.result.now) same
    ∙ ap (position (is_at c.args.host.now c.args.port)) c.nodes.ensures.nodes

pub returns : goal.returns
returns c =
    let same = to_z-of_z w64 c.args.port c.ranges.port in
    let here : Some c.in_ok-place.place ≡ position (is_at c.args.host.now c.args.port) c.args.config.now.nodes = c.in_ok-place.ensures ∙ ap (λ port. position (is_at c.args.host.now port) c.nodes.result.now) same
    ∙ ap (position (is_at c.args.host.now c.args.port)) c.nodes.ensures.nodes in
    let below : c.in_ok-place.place < length c.args.config.now.nodes = place_below (is_at c.args.host.now c.args.port) c.args.config.now.nodes c.in_ok-place.place (sym here) in
    let few : c.in_ok-place.place < 16 = omega (arith, c.nodes.ensures.cluster.most) in
    let made : c.new.result ≡ Some c.in_ok-place.place = search rules in
    made ∙ here
