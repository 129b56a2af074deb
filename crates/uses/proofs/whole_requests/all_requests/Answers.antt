use Rattle.std.proofs.lemmas.Result.{err_from_is_err_and}
use Rattle.uses.proofs.RequestLemmas.{one_more, all_read, refused_by}
use Rattle.uses.proofs.whole_requests.all_requests.Goals as goal

pub loop-requests-preserved : goal.loop-requests-preserved
loop-requests-preserved c =
    let hands = rw c.in-Some.is at c.in_ok-words.ensures.request in
    record {
      are = rw c.in-Ok.ensures.items (one_more _ _ _ _ _ c.loop-requests.invariant.are hands);
      sound = hands.still_sound;
    }

pub returns-clause-all : goal.returns-clause-all
returns-clause-all c =
    let waits = rw c.in_default.is at c.in_ok-words.ensures.unfinished in
    all_read _ _ _ _ c.no_unfinished_is_whole.ensures c.a_stream_is_read_in_one_way.ensures c.loop-requests.invariant.are waits

pub returns-in_err-words-clause-fault : goal.returns-in_err-words-clause-fault
returns-in_err-words-clause-fault c =
    let fault = err_from_is_err_and c.from_residual-in_err-words.result c.from_residual-in_err-words.ensures.1 in
    rw (fault.1, fault.2)
    (refused_by _ _ _ _ _ c.loop-requests.invariant.are (rw c.loop-requests.invariant.sound at c.in_err-words.ensures.fault))
