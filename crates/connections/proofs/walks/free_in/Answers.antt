use Rattle.std.proofs.Common.{◌≡◌, arith, ap, ◌∙◌}
use Rattle.connections.specs.Connections.{freed}
use Rattle.connections.specs.Waiting.{test_of}
use Rattle.connections.proofs.Counts.{count-freed_at, one_if}
use Rattle.connections.proofs.Steps.{changed_all, changed_more}
use Rattle.connections.proofs.walks.free_in.Goals.{then-free_at, else-free_at}
use Rattle.connections.proofs.walks.free_in.Goals as goal

pub loop-key-preserved : goal.loop-key-preserved
loop-key-preserved c =
    let done = changed_more (freed (test_of c.args.which.now)) c.loop-key.key _ _ _ c.loop-key.invariant.0 c.free_at.ensures.freed in
    let counted = count-freed_at (test_of c.args.which.now) c.loop-key.places.slots c.free_at.new.places.slots c.loop-key.key c.free_at.result c.free_at.ensures.meant c.free_at.ensures.freed in
    elim c.if-free_at.branch [
      | then-free_at w ↦
          let one : one_if c.free_at.result ≡ 1 = ap one_if w.if-free_at.true in
          (done, omega arith, omega arith)
      | else-free_at w ↦
          let none : one_if c.free_at.result ≡ 0 = ap one_if w.if-free_at.false in
          (done, omega arith, omega arith)
    ]

pub returns-clause-freed : goal.returns-clause-freed
returns-clause-freed c =
    c.loop-key.invariant.0 ∙ changed_all (freed (test_of c.args.which.now)) c.loop-key.key c.args.places.now.slots (omega arith)
