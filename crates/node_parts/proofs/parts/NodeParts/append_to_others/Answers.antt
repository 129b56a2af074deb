use Rattle.std.proofs.Common.{◌≡◌, ◌==◌, not, ap, sym, ◌∙◌, rules}
use Rattle.node_parts.proofs.ToAll.{left_out, sent_on}
use Rattle.node_parts.proofs.parts.NodeParts.append_to_others.Goals as goal
use Rattle.node_parts.proofs.parts.NodeParts.append_to_others.Goals.{then-ne+in_ok-clone+in_ok-push, else-ne}

pub loop-place-preserved : goal.loop-place-preserved
loop-place-preserved g c =
    let number = c.args.self.now.number in
    let own : c.self.inside.number ≡ number = ap (λ node. node.number) c.self.view_is in
    let at : c.unwrap-to.result ≡ c.loop-place.place = search rules in
    elim c.if-ne.branch [
      | then-ne+in_ok-clone+in_ok-push w ↦
          sent_on (λ other. not (other == number)) c.loop-place.place c.args.body.now c.unwrap-to.result w.in_ok-clone.field-0 c.args.bodies.now.items c.loop-place.bodies.items c.if-ne.bodies.items
          at w.in_ok-clone.ensures.cases (ap (λ n. not (c.unwrap-to.result == n)) (sym own) ∙ sym c.ne.ensures ∙ w.if-ne.true) c.loop-place.invariant (rw w.bodies-is w.in_ok-push.ensures.items)
      | else-ne w ↦
          left_out (λ other. not (other == number)) c.loop-place.place c.args.body.now c.unwrap-to.result c.args.bodies.now.items c.loop-place.bodies.items c.if-ne.bodies.items
          at (ap (λ n. not (c.unwrap-to.result == n)) (sym own) ∙ sym c.ne.ensures ∙ w.if-ne.false) c.loop-place.invariant (rw w.bodies-is)
    ]
