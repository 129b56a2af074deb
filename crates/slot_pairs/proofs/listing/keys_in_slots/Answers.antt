use Rattle.std.proofs.lemmas.List.Filters.{dedup_is}
use Rattle.slot_pairs.proofs.ListingLemmas.{some_listed}
use Rattle.slot_pairs.proofs.listing.keys_in_slots.Goals as goal

pub returns : goal.returns
returns g c =
    some_listed c.args.slots.now (g.S.Store.contents c.args.store.now) c.in_ok-keys.keys.items c.sort_unstable.new.self.items c.dedup.new.self.items
    c.in_ok-keys.ensures c.sort_unstable.ensures.permutation c.sort_unstable.ensures.sorted (dedup_is _ _ _ c.dedup.ensures.filtered)
