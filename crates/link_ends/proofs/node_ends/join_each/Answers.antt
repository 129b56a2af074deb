use Rattle.std.proofs.Common.{rules, ◌≡◌, ◌++◌, ◌∷◌, [], All, sym, subst}
use Rattle.std.proofs.lemmas.List.{get_or_default}
use Rattle.std.proofs.lemmas.List.Elements.{All-push}
use Rattle.link_ends.specs.Ends.{IsUnused}
use Rattle.link_ends.proofs.JoiningLemmas.{joined_next}
use Rattle.link_ends.proofs.node_ends.join_each.Goals as goal

pub loop-other-preserved : goal.loop-other-preserved
loop-other-preserved g c =
    let row = c.loop-other.row.items in
    let here = c.in_ok-there.here in
    let pushed : c.push-in-loop-other.new.self.items ≡ row ++ here ∷ [] = search rules in
    record {
      joined = joined_next _ _ row _ c.loop-other.other _ _ _ here c.loop-other.invariant.joined (search rules) (search rules) pushed
          (get_or_default c.loop-other.others _ _ [] (search rules)) c.in_ok-push.ensures c.in_ok-there.ensures.facing;
      count = search rules;
      all = search rules;
      unused = subst (All IsUnused) (sym pushed) (All-push IsUnused row here c.loop-other.invariant.unused c.in_ok-there.ensures.unused);
    }
