use Rattle.std.proofs.Common.{rules, ◌≡◌, ◌∙◌, ◌∷◌, ◌++◌, [], All, ap, append_assoc, map, subst, sym}
use Rattle.std.specs.Vec.Iter.{into_iter_items}
use Rattle.std.proofs.lemmas.List.{map-append}
use Rattle.std.proofs.lemmas.List.Elements.{All-tail}
use Rattle.link_ends.specs.Ends.{IsUnused}
use Rattle.link_ends.proofs.port_ends.shim_each.Goals as goal

pub loop-end-preserved : goal.loop-end-preserved
loop-end-preserved g c =
    let first = c.in-Some.end in
    let rest = into_iter_items c.next.new.self in
    let split : into_iter_items c.loop-end.end-iterator ≡ first ∷ rest = search rules in
    let before = map (λ end. end.inner) c.loop-end.ends.items in
    let grown : c.push.new.self.items ≡ c.loop-end.ends.items ++ c.new.result ∷ [] = search rules in
    record {
      ends = ap (λ ends. map (λ end. end.inner) ends ++ rest) grown ∙ ap (λ ends. ends ++ rest) (map-append (λ end. end.inner) c.loop-end.ends.items (c.new.result ∷ []))
          ∙ ap (λ end. (before ++ end ∷ []) ++ rest) (ap (λ shim. shim.inner) c.new.ensures) ∙ append_assoc before (first ∷ []) rest
          ∙ ap (λ left. before ++ left) (sym split) ∙ c.loop-end.invariant.ends;
      unused = All-tail IsUnused first rest (subst (All IsUnused) split c.loop-end.invariant.unused);
    }
