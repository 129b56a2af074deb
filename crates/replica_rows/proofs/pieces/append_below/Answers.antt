use Rattle.std.proofs.Common.{◌≡◌, ap, sym, ◌∙◌, rules}
use Rattle.bus.specs.declared.bodies.StreamBody.TheVariants.{Piece}
use Rattle.bus.specs.declared.message.Body.TheVariants.{Stream}
use Rattle.node_parts.proofs.ToAll.{left_out, sent_on}
use Rattle.replica_rows.proofs.PieceLemmas.{copies}
use Rattle.replica_rows.proofs.pieces.append_below.Goals as goal
use Rattle.replica_rows.proofs.pieces.append_below.Goals.{then-has_replica+in_ok-clone+in_ok-push, else-has_replica}

pub loop-place-preserved : goal.loop-place-preserved
loop-place-preserved g c =
    let node = c.args.node.now in
    let body = Stream (Piece c.args.piece.now) in
    let at : c.unwrap-to.result ≡ c.loop-place.place = search rules in
    elim c.if-has_replica.branch [
      | then-has_replica+in_ok-clone+in_ok-push w ↦
          sent_on (copies node.masters node.number) c.loop-place.place body c.unwrap-to.result _ c.args.bodies.now.items c.loop-place.bodies.items c.if-has_replica.bodies.items
          at (ap (λ piece. Stream (Piece piece)) w.in_ok-clone.ensures.cases) (sym c.has_replica.ensures ∙ w.if-has_replica.true) c.loop-place.invariant (rw w.bodies-is w.in_ok-push.ensures.items)
      | else-has_replica w ↦
          left_out (copies node.masters node.number) c.loop-place.place body c.unwrap-to.result c.args.bodies.now.items c.loop-place.bodies.items c.if-has_replica.bodies.items
          at (sym c.has_replica.ensures ∙ w.if-has_replica.false) c.loop-place.invariant (rw w.bodies-is)
    ]
