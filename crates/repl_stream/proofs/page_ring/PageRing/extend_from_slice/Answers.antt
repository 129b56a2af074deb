use Rattle.std.proofs.Common.{ℕ, refl, ap, ◌∙◌, arith}
use Rattle.circular_buffer.specs.Buffer.{Buffer}
use Rattle.repl_stream.proofs.KeptLemmas.{keep_last-skip}
use Rattle.repl_stream.proofs.RingLemmas.{length_kept, still_comes}
use Rattle.repl_stream.proofs.page_ring.PageRing.extend_from_slice.Goals as goal

pub loop-rest-init : goal.loop-rest-init
loop-rest-init c =
    let ring = c.self.inside in
    let there = c.self.invariant in
    let size = length_kept ring.pages ring.kept ring.capacity c.args.self.now c.self.view_is there.0.within in
    let capacity = ap (λ (r : Buffer ℕ). r.capacity) c.self.view_is in (
      keep_last-skip c.args.self.now.capacity c.saturating_sub.result c.args.self.now.items c.args.bytes.now (omega (arith, capacity)),
      refl,
      omega (arith, size, there.1, capacity),
    )

pub loop-rest-preserved : goal.loop-rest-preserved
loop-rest-preserved c =
    let filled = c.fill-count.ensures.filled in (
      still_comes c.fill-count.result c.loop-rest.self c.fill-count.new.self c.loop-rest.rest.now filled ∙ c.loop-rest.invariant.0,
      ap (λ (r : Buffer ℕ). r.capacity) filled ∙ c.loop-rest.invariant.1,
      c.fill-count.ensures.within,
    )
