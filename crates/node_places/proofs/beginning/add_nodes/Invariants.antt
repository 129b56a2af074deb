use Rattle.std.proofs.Common.{◌≡◌, ◌+◌, All, length, map, vec_len}
use Rattle.std.specs.Vec.Iter.{into_iter_items}
use Rattle.link_ends.specs.Ends.{AreLinkedFrom}
use Rattle.tickets.specs.Tickets.{IsFresh}
use Rattle.node_places.proofs.beginning.add_nodes.Given as goal

-- each place so far has its node, the seats of the others have drawn nothing, and their ends are those of the further nodes
abbrev pub invariant-loop-place : goal.invariant-loop-place
invariant-loop-place g l =
    record {
      count : vec_len l.nodes + length (into_iter_items l.place-iterator) ≡ length l.fn.places.items;
      fresh : All (λ place. IsFresh g.K.Deployment.table g.K.Deployment.seats place.seat) (into_iter_items l.place-iterator);
      linked : AreLinkedFrom g.W.Web.links (length l.config.nodes) (vec_len l.nodes) (map (λ place. place.ends) (into_iter_items l.place-iterator));
    }
