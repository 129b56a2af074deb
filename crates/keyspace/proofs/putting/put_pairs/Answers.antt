use Rattle.std.proofs.Common.{◌≡◌, ◌+◌, ℕ, length, length-append, arith, sym, ap, ◌∙◌}
use Rattle.std.specs.Vec.Iter.{into_iter_items}
use Rattle.keyspace.specs.Putting.{with_pairs}
use Rattle.keyspace.proofs.Restored.{back_more, over_put}
use Rattle.keyspace.proofs.putting.put_pairs.Goals as goal

pub loop-key-preserved : goal.loop-key-preserved
loop-key-preserved g c =
    let put = c.in_default.ensures.ok in
    let kept = c.in_default.ensures.former in
    let next = c.in-Some.ensures.steps.0 in
    let more = simp length-append at (ap length kept) in
    let less = ap length next in
    record {
      same = ap (λ m. with_pairs m (into_iter_items c.next.new.self)) put ∙ sym (ap (with_pairs (g.S.Store.contents c.loop-key.store)) next) ∙ c.loop-key.invariant.same;
      back = back_more _ _ _ _ _ _ put kept ∙ c.loop-key.invariant.back;
      over = over_put _ _ _ _ _ _ put kept c.loop-key.invariant.over;
      room = omega (arith, more, less);
    }
