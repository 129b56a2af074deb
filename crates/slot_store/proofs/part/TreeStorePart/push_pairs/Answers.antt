use Rattle.std.proofs.Common.{◌≡◌, ◌++◌, ap, ◌∙◌, rules}
use Rattle.std.specs.List.{flat_map}
use Rattle.key_map.specs.KeyMap.{keys}
use Rattle.slot_store.proofs.KeyEntries.{found_in, pairs_of_map}
use Rattle.slot_store.proofs.part.TreeStorePart.push_pairs.Goals as goal

pub returns : goal.returns
returns c =
    let own = c.args.self.now in
    let old = c.args.pairs.now.items in
    let found : c.loop-key.pairs.items ≡ old ++ flat_map (found_in own.entries) (keys own) = search rules in
    found ∙ ap (λ entries. old ++ entries) (pairs_of_map own c.keys-key-items.ensures.ordered)
