use Rattle.resharder.specs.Step.{IsWaiting}
use Rattle.resharder.proofs.RunLemmas.{HasAsked}
use Rattle.resharder.proofs.resharder.go_on.Given as goal

-- what came of the requests led to what is wanted now, and the run waits for what comes of that
abbrev pub invariant-requests : goal.invariant-requests
invariant-requests g l = record {
  asked : HasAsked (record { state = l.fn.core; deeds = g.N.Network.deeds l.fn.network }) l.action (record { state = l.core; deeds = g.N.Network.deeds l.network }) l.counter;
  waits : IsWaiting l.action l.core.stage;
}
