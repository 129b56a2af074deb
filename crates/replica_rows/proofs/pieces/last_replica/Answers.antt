use Rattle.std.proofs.Common.{◌≡◌, sym, ◌∙◌, rules}
use Rattle.replica_rows.proofs.PieceLemmas.{copies, is_former, is_next}
use Rattle.replica_rows.proofs.pieces.last_replica.Goals as goal
use Rattle.replica_rows.proofs.pieces.last_replica.Goals.{then-has_replica, else-has_replica}

pub loop-place-preserved : goal.loop-place-preserved
loop-place-preserved g c =
    let node = c.args.node.now in
    let at : c.unwrap-other.result ≡ c.loop-place.place = search rules in
    elim c.if-has_replica.branch [
      | then-has_replica w ↦ rw w.last-is (is_next (copies node.masters node.number) c.loop-place.place c.unwrap-other.result at (sym c.has_replica.ensures ∙ w.if-has_replica.true))
      | else-has_replica w ↦ rw w.last-is (is_former (copies node.masters node.number) c.loop-place.place c.unwrap-other.result at c.loop-place.last (sym c.has_replica.ensures ∙ w.if-has_replica.false) c.loop-place.invariant)
    ]
