use Rattle.slot_pairs.proofs.ListingLemmas.{all_listed}
use Rattle.slot_pairs.proofs.listing.pairs.Goals as goal

pub returns : goal.returns
returns g c = all_listed (g.S.Store.contents c.args.store.now) c.in_ok-pairs.pairs.items c.sort.new.pairs.items c.in_ok-pairs.ensures c.sort.ensures.permutation c.sort.ensures.sorted
