use Rattle.resharder.proofs.RunLemmas.{asked_comes, asks_on, begins, gives_up}
use Rattle.std.proofs.Common.{refl}
use Rattle.resharder.proofs.resharder.go_on.Goals as goal

pub requests-init : goal.requests-init
requests-init g c = record { asked = begins _ _ c.on-action.result refl c.requires c.on-action.ensures.steps; waits = c.on-action.ensures.waits }

pub on-action-requires-in-Ask : goal.on-action-requires-in-Ask
on-action-requires-in-Ask g c = asked_comes c.requests.action c.in-Ask.to c.in-Ask.words _ _ c.ask_node-event.result c.requests.core.stage c.in-Ask.is c.ask_node-event.ensures c.requests.invariant.waits

pub requests-preserved : goal.requests-preserved
requests-preserved g c = record {
  asked = asks_on _ _ _ c.requests.action c.in-Ask.to c.in-Ask.words c.on-action-in-Ask.result c.ask_node-event.result c.requests.counter c.in-Ask.is c.requests.invariant.asked c.ask_node-event.ensures c.requests.invariant.waits
      c.on-action-in-Ask.ensures.steps;
  waits = c.on-action-in-Ask.ensures.waits;
}

pub returns-clause-answers : goal.returns-clause-answers
returns-clause-answers g c = gives_up _ _ c.requests.action c.requests.counter c.requests.invariant.asked c.requests-test.false c.requests.auto.counter-end
