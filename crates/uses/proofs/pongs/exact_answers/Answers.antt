use Rattle.uses.proofs.PongLemmas.{are_answered_exactly}
use Rattle.uses.proofs.pongs.exact_answers.Goals as goal

pub returns : goal.returns
returns c =
    let served = rw (c.new-reader.ensures.inner, c.new-writer.ensures.inner, c.new.ensures.items) at c.in_ok-serve_conn.ensures in
    rw c.into_inner.ensures (are_answered_exactly _ _ _ _ _ _ _ _ _ _ _ _ c.no_unfinished_is_whole.ensures c.a_stream_is_read_in_one_way.ensures served)
