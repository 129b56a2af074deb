use Rattle.std.proofs.Common.{◌≡◌, ◌∷◌, [], rules}
use Rattle.std.specs.Prelude.{codes}
use Rattle.uses.proofs.FewWords.{set_is_request}
use Rattle.uses.proofs.set_and_get.set_words.Goals as goal

pub unwrap-requires : goal.unwrap-requires
unwrap-requires c =
    let is : c.in_ok-items.items.items ≡ codes "SET" ∷ c.args.key.now ∷ c.args.value.now ∷ [] = (search rules) in
    c.new.ensures.whole (set_is_request c.in_ok-items.items.items c.args.key.now c.args.value.now is c.requires)
