use Rattle.resharder.proofs.RequestLemmas.{few_are_a_request}
use Rattle.resharder.proofs.order.request.Goals as goal

pub unwrap-requires : goal.unwrap-requires
unwrap-requires c = c.new.ensures.whole (few_are_a_request c.args.words.items c.requires.some c.requires.few c.requires.short)
