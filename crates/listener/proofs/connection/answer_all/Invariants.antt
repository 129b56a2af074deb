use Rattle.std.proofs.Common.{◌≡◌, length, None}
use Rattle.listener.specs.Calls.{TalkAnswers}
use Rattle.listener.specs.Turns.{HasRoom}
use Rattle.listener.proofs.connection.answer_all.Given as goal

-- the requests so far are answered, and the bytes that are left grow fewer
abbrev pub invariant-turns : goal.invariant-turns
invariant-turns g l = record {
  answers : TalkAnswers g.G.NodeGate l.fn.gate l.gate g.G.Answer.Answered.gave l.fn.talk l.talk g.W.Write l.fn.writer l.writer;
  good : l.talk.requests.fault ≡ None;
  room : HasRoom l.talk.outgoing;
  same : l.talk.conn ≡ l.fn.talk.conn;
}

abbrev pub decreases-turns : goal.decreases-turns
decreases-turns g l = length l.talk.requests.pending
