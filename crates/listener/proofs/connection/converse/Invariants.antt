use Rattle.std.proofs.Common.{◌≡◌, ◌≤◌, ◌<◌, ℕ, List, [], length, None, vec_len}
use Rattle.std.specs.Io.KnownBytes.{Consumes}
use Rattle.resp2.specs.Counting.{inner_of, failures_of}
use Rattle.resp2.specs.Stream.{IsUnfinished}
use Rattle.listener.specs.Progress.{Answers, desk}
use Rattle.listener.specs.Streams.{stream_of}
use Rattle.listener.specs.Turns.{HasRoom, desk_of, waiting_of}
use Rattle.listener.proofs.connection.converse.Given as goal

-- what came so far is answered and written, but for the beginning of a request
abbrev pub invariant-reads : goal.invariant-reads
invariant-reads g l = record {
  came : List ℕ;
  read : Consumes (g.R.Read.remaining (inner_of l.fn.reader)) (g.R.Read.remaining (inner_of l.reader)) came;
  long : l.counter ≤ length came;
  answers : Answers g.G.NodeGate.allowed l.fn.talk.conn
      (desk (g.G.NodeGate.asked l.fn.gate) came [] (stream_of g.W.Write.contents l.fn.writer))
      (desk_of g.G.Answer.Answered.gave (g.G.NodeGate.asked l.gate) l.talk (stream_of g.W.Write.contents l.writer));
  unfinished : IsUnfinished l.talk.requests.pending;
  good : l.talk.requests.fault ≡ None;
  empty : waiting_of g.G.Answer.Answered.gave l.talk.outgoing ≡ [];
  free : HasRoom l.talk.outgoing;
  same : l.talk.conn ≡ l.fn.talk.conn;
  reader : failures_of l.reader ≡ failures_of l.fn.reader;
  room : 0 < vec_len l.input.room;
}
