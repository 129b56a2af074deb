use Rattle.smart_client.specs.Calls.{IsWaiting}
use Rattle.smart_client.proofs.ClientLemmas.{Goes, left_at}
use Rattle.smart_client.proofs.client.Client.call.Given as goal

-- what was done led to what is wanted now, and the client waits for what comes of that
abbrev pub invariant-deeds : goal.invariant-deeds
invariant-deeds g l = record {
  goes : Goes l.fn.words l.fn.self l.is_begun l.action (record { state = l.self-inside.core; deeds = g.N.Network.deeds l.self-inside.network; pool = g.N.Network.pool l.self-inside.network; wires = g.N.Network.wires l.self-inside.network });
  waits : IsWaiting l.action l.self-inside.core.call;
}

abbrev pub decreases-deeds : goal.decreases-deeds
decreases-deeds g l = left_at l.self-inside.core.limit l.self-inside.core.call
