use Rattle.smart_client.proofs.RequestLemmas.{two_are_a_request}
use Rattle.smart_client.proofs.requests.two_words.Goals as goal

pub unwrap-requires : goal.unwrap-requires
unwrap-requires c = c.new.ensures.whole (rw c.in_ok-push-2.ensures.items (rw c.in_ok-push.ensures.items (rw c.in_ok-words.ensures.items (two_are_a_request c.args.first c.args.second c.requires.0 c.requires.1))))
