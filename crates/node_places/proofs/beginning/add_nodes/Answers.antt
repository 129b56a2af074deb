use Rattle.std.proofs.Common.{rules, ◌≡◌, ◌+◌, ◌∷◌, All, subst, vec_len}
use Rattle.std.specs.Vec.Iter.{into_iter_items}
use Rattle.tickets.specs.Tickets.{IsFresh}
use Rattle.node_places.proofs.PlaceLemmas.{first_linked, others_linked, others_too}
use Rattle.node_places.proofs.beginning.add_nodes.Goals as goal

pub add_node-requires-clause-links : goal.add_node-requires-clause-links
add_node-requires-clause-links g c =
    let split : into_iter_items c.loop-place.place-iterator ≡ c.in-Some.place ∷ into_iter_items c.next.new.self = search rules in
    first_linked (λ place. place.ends) g.W.Web.links _ _ _ _ _ c.in-Some.place split (search rules) c.loop-place.invariant.linked

pub loop-place-preserved : goal.loop-place-preserved
loop-place-preserved g c =
    let split : into_iter_items c.loop-place.place-iterator ≡ c.in-Some.place ∷ into_iter_items c.next.new.self = search rules in
    let grown : vec_len c.add_node.new.nodes ≡ vec_len c.loop-place.nodes + 1 = search rules in
    record {
      count = search rules;
      fresh = others_too (λ place. IsFresh g.K.Deployment.table g.K.Deployment.seats place.seat) c.in-Some.place (into_iter_items c.next.new.self)
          (subst (All (λ place. IsFresh g.K.Deployment.table g.K.Deployment.seats place.seat)) split c.loop-place.invariant.fresh);
      linked = others_linked (λ place. place.ends) g.W.Web.links _ _ _ _ _ c.in-Some.place split grown c.loop-place.invariant.linked;
    }
