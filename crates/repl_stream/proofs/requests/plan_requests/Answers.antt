use Rattle.repl_stream.proofs.ReadingLemmas.{holds_rest, one_more}
use Rattle.repl_stream.proofs.requests.plan_requests.Goals as goal

pub requests-preserved : goal.requests-preserved
requests-preserved g c =
    let hands = rw c.in-Some.is at c.in_ok-words.ensures.request in
    record {
      holds = holds_rest _ _ _ _ hands c.behind-rest.ensures;
      read = one_more _ _ _ _ _ _ _ _ c.requests.invariant.read hands c.behind-rest.ensures c.in_ok-plan_words.ensures;
    }
