use Rattle.std.proofs.Common.{ap}
use Rattle.listener.specs.Streams.{stream_of}
use Rattle.listener.proofs.TalkLemmas.{serves_left}
use Rattle.listener.proofs.connection.serve_conn.Goals as goal

pub returns : goal.returns
returns g c =
    serves_left _ _ _ _ _ _ _ _ _ c.talk-over.ensures c.tell.ensures.told
    (λ e. (c.tell.ensures.failed e, ap (stream_of g.W.Write.contents) (c.tell.ensures.silent e)))
