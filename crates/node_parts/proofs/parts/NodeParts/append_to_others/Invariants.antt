use Rattle.std.proofs.Common.{◌≡◌, ◌++◌, ◌==◌, not}
use Rattle.node_step.specs.Orders.{to_all}
use Rattle.node_parts.proofs.ToAll.{those_below}
use Rattle.node_parts.proofs.parts.NodeParts.append_to_others.Given as goal

-- the nodes so far get the body
abbrev pub invariant-loop-place : goal.invariant-loop-place
invariant-loop-place g l = l.bodies.items ≡ l.initial.bodies.items ++ to_all (those_below (λ number. not (number == l.self.number)) l.place) l.body
