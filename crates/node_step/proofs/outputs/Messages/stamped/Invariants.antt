use Rattle.std.proofs.Common.{◌≡◌, map}
use Rattle.node_step.specs.Outcome.{stamped}
use Rattle.node_step.proofs.outputs.Messages.stamped.Given as goal

-- the bodies so far are stamped
abbrev pub invariant-loop-to : goal.invariant-loop-to
invariant-loop-to l = l.messages.items ≡ map (stamped l.from l.ticket l.epoch) l.yielded
