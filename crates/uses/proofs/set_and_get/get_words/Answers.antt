use Rattle.std.proofs.Common.{◌≡◌, ◌∷◌, [], rules}
use Rattle.std.specs.Prelude.{codes}
use Rattle.uses.proofs.FewWords.{get_is_request}
use Rattle.uses.proofs.set_and_get.get_words.Goals as goal

pub unwrap-requires : goal.unwrap-requires
unwrap-requires c =
    let is : c.in_ok-items.items.items ≡ codes "GET" ∷ c.args.key.now ∷ [] = (search rules) in
    c.new.ensures.whole (get_is_request c.in_ok-items.items.items c.args.key.now is c.requires)
