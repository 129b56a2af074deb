use Rattle.std.proofs.Common.{◌≡◌, ℕ, ◌+◌, ◌*◌, ◌≤◌, List, length, take, ap, ◌∙◌, arith, length-append, length-take}
use Rattle.repl_stream.proofs.TurnLemmas.{filled}
use Rattle.repl_stream.proofs.RingLemmas.{ring_filled}
use Rattle.repl_stream.proofs.page_ring.PageRing.fill.Goals as goal

pub invariant_of-self : goal.invariant_of-self
invariant_of-self c =
    let ring = c.self.inside in
    let there = c.self.invariant in
    let put = c.fill-count.ensures in
    let few : ring.kept ≤ 8 * ring.pages.len = omega (arith, there.1, there.2) in
    let keeps = c.make_room.ensures.keeps ring.kept few there.0 in
    let more : length c.fill-count.new.self.last.items ≡ length c.make_room.new.self.last.items + c.fill-count.result
    = simp (length-append, length-take) at (ap (λ (t : List ℕ). length t) put.last) ∙ omega (arith, put.count) in (
      filled c.make_room.new.self c.fill-count.new.self ring.kept c.min-self-inside.result c.fill-count.result keeps put.same.0 put.same.1 put.block more
          (omega (arith, put.count, keeps.last.0)) (omega arith),
      omega arith,
      omega (arith, there.2, put.same.1, c.make_room.ensures.len),
      omega (arith, there.3, put.same.1, c.make_room.ensures.len),
    )

pub returns-clause-filled : goal.returns-clause-filled
returns-clause-filled c =
    let ring = c.self.inside in
    let there = c.self.invariant in
    let put = c.fill-count.ensures in
    let few : ring.kept ≤ 8 * ring.pages.len = omega (arith, there.1, there.2) in
    let keeps = c.make_room.ensures.keeps ring.kept few there.0 in
    ring_filled ring.pages c.make_room.new.self c.fill-count.new.self ring.kept ring.capacity c.min-self-inside.result
    (take c.fill-count.result c.args.bytes.now) c.args.self.now c.self.view_is (c.make_room.ensures.bytes ring.kept few there.0)
    keeps.within there.1 (omega (arith, put.count, length-take c.fill-count.result c.args.bytes.now)) put.same.0 put.last
