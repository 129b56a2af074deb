use Rattle.std.proofs.Common.{◌≡◌}
use Rattle.shared_node.proofs.gate.wait_at.Given as goal

-- nothing is noted as long as no reply has come
abbrev pub invariant-loop : goal.invariant-loop
invariant-loop g l = l.asks ≡ l.initial.asks
