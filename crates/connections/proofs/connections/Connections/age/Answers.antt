use Rattle.std.proofs.Common.{ap, sym, ◌∙◌}
use Rattle.connections.specs.Connections.{ConnectionTable}
use Rattle.connections.specs.Counting.{count_of_waits}
use Rattle.connections.proofs.Counts.{all_aged_none}
use Rattle.connections.proofs.connections.Connections.age.Goals as goal

pub returns-then-self-eq0 : goal.returns-then-self-eq0
returns-then-self-eq0 c =
    sym (all_aged_none c.args.self.now (sym (ap (λ (table : ConnectionTable). count_of_waits table.slots) c.self.view_is) ∙ sym c.self.invariant.waiting ∙ c.if-self-eq0.true))
