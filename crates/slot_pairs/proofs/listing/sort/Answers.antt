use Rattle.std.proofs.Common.{ℕ, List, rules}
use Rattle.keyspace.specs.declared.value.Value.{Value}
use Rattle.slot_pairs.proofs.ListingLemmas.{sorted_by_key}
use Rattle.slot_pairs.proofs.listing.sort.Goals as goal

pub returns-clause-sorted : goal.returns-clause-sorted
returns-clause-sorted c = sorted_by_key (λ (pair : List ℕ × Value). pair.0) _ c.sort_unstable_by.ensures.sorted (λ a r q k. search rules)
