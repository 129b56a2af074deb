use Rattle.std.proofs.Common.{ap, sym, ◌∙◌}
use Rattle.connections.specs.Connections.{ConnectionTable}
use Rattle.connections.specs.Counting.{count_of_waits}
use Rattle.connections.specs.Waiting.{test_of}
use Rattle.connections.proofs.Counts.{all_freed_none}
use Rattle.connections.proofs.connections.Connections.free.Goals as goal

pub returns-then-self-eq0 : goal.returns-then-self-eq0
returns-then-self-eq0 c =
    sym (all_freed_none c.args.self.now (test_of c.args.which.now) (sym (ap (λ (table : ConnectionTable). count_of_waits table.slots) c.self.view_is) ∙ sym c.self.invariant.waiting ∙ c.if-self-eq0.true))
