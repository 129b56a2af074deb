use Rattle.std.proofs.Common.{ℕ, ◌-◌, ◌≤◌, take, refl, sym, ap, ◌∙◌, arith}
use Rattle.circular_buffer.specs.Buffer.{buffer}
use Rattle.repl_stream.proofs.TurnLemmas.{cut}
use Rattle.repl_stream.proofs.RingLemmas.{length_kept, ring_cut}
use Rattle.repl_stream.proofs.page_ring.PageRing.cut.Goals as goal

pub invariant_of-self : goal.invariant_of-self
invariant_of-self c =
    let ring = c.self.inside in
    let there = c.self.invariant in
    let keeps = c.reopen.ensures.keeps ring.kept there.0 in
    let size = length_kept ring.pages ring.kept ring.capacity c.args.self.now c.self.view_is there.0.within in
    let went = c.cut.ensures in (
      cut c.reopen.new.self c.cut.new.self ring.kept c.cut.result keeps (omega (arith, went.count)) (omega (arith, went.count, size, c.requires.there))
          went.same.0 went.same.1 went.block went.last,
      omega (arith, there.1),
      omega (arith, there.2, went.same.1, c.reopen.ensures.len),
      omega (arith, there.3, went.same.1, c.reopen.ensures.len),
    )

pub returns-clause-cut : goal.returns-clause-cut
returns-clause-cut c =
    let ring = c.self.inside in
    let there = c.self.invariant in
    let keeps = c.reopen.ensures.keeps ring.kept there.0 in
    let size = length_kept ring.pages ring.kept ring.capacity c.args.self.now c.self.view_is there.0.within in
    let went = c.cut.ensures in
    let few : c.cut.result ≤ ring.kept = omega (arith, went.count, size, c.requires.there) in
    let still = cut c.reopen.new.self c.cut.new.self ring.kept c.cut.result keeps (omega (arith, went.count)) few
    went.same.0 went.same.1 went.block went.last in
    let left = length_kept c.cut.new.self (ring.kept - c.cut.result) ring.capacity _ refl still.within in
    ring_cut ring.pages c.reopen.new.self c.cut.new.self ring.kept ring.capacity c.cut.result c.args.self.now c.self.view_is c.reopen.ensures.bytes
    keeps.within few (omega (arith, went.count)) went.same.0 went.last
    ∙ ap (λ (n : ℕ). buffer (take n c.args.self.now.items) c.args.self.now.capacity) (sym left)
