use Rattle.std.proofs.Common.{◌≡◌, ◌++◌, ap, ◌∙◌, rules}
use Rattle.key_map.specs.KeyMap.{keys}
use Rattle.slot_store.proofs.KeyEntries.{keys_of_map}
use Rattle.slot_store.proofs.part.TreeStorePart.push_keys.Goals as goal

pub returns : goal.returns
returns c =
    let old = c.args.keys.now.items in
    let all : c.loop-key.keys.items ≡ old ++ keys c.args.self.now = search rules in
    all ∙ ap (λ keys. old ++ keys) (keys_of_map c.args.self.now c.keys-key-items.ensures.ordered)
