use Rattle.std.proofs.Common.{rules, ◌≡◌, ◌∙◌, ◌∷◌, ◌++◌, [], All, ap, append_assoc, subst, sym}
use Rattle.std.specs.Vec.Iter.{into_iter_items}
use Rattle.std.proofs.lemmas.List.Elements.{All-tail}
use Rattle.link_ends.specs.Ends.{IsUnused}
use Rattle.link_ends.proofs.port_ends.shim_all.Goals as goal

pub loop-node-preserved : goal.loop-node-preserved
loop-node-preserved g c =
    let first = c.in-Some.node in
    let rest = into_iter_items c.next.new.self in
    let split : into_iter_items c.loop-node.node-iterator ≡ first ∷ rest = search rules in
    let grown : c.push.new.self.items ≡ c.loop-node.all.items ++ first ∷ [] = search rules in
    record {
      all = ap (λ all. all ++ rest) grown ∙ append_assoc c.loop-node.all.items (first ∷ []) rest ∙ ap (λ left. c.loop-node.all.items ++ left) (sym split) ∙ c.loop-node.invariant.all;
      unused = All-tail (λ ends. All IsUnused ends) first rest (subst (All (λ ends. All IsUnused ends)) split c.loop-node.invariant.unused);
    }
