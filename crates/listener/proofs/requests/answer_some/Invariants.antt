use Rattle.std.proofs.Common.{◌≡◌, ◌≢◌, ◌+◌, ◌≤◌, length, None}
use Rattle.listener.specs.Calls.{TurnAnswers}
use Rattle.listener.specs.Turns.{talk_of}
use Rattle.listener.specs.declared.outgoing.Held.TheVariants.{Parked}
use Rattle.listener.proofs.requests.answer_some.Given as goal

-- the requests so far are answered, each of a byte at least
abbrev pub invariant-requests : goal.invariant-requests
invariant-requests g l = record {
  answers : TurnAnswers g.G.NodeGate l.fn.gate l.gate g.S.Answered.gave
      (talk_of l.conn l.fn.requests l.fn.outgoing) (talk_of l.conn l.requests l.outgoing);
  good : l.fn.requests.fault ≡ None → l.requests.fault ≡ None;
  here : l.outgoing.held ≢ Parked;
  shorter : l.counter + length l.requests.pending ≤ length l.fn.requests.pending;
  first : l.counter ≡ 0 → l.outgoing ≡ l.fn.outgoing;
}
