use Rattle.std.proofs.Common.{nat_eq, subst}
use Rattle.std.specs.List.{IsDistinct}
use Rattle.turn_queue.specs.Turns.{Turns}
use Rattle.turn_queue.proofs.MarkLemmas.{each-once}
use Rattle.turn_queue.proofs.turn_queue.TurnQueue.iter.Goals as goal

pub returns-clause-once : goal.returns-clause-once
returns-clause-once c =
    subst (λ (view : Turns). IsDistinct nat_eq view.keys) c.self.view_is (each-once c.self.inside.keys.items c.self.inside.marks.items c.self.invariant.marked)
