use Rattle.std.proofs.Common.{◌≡◌, ◌+◌, ◌++◌, All, length, map, vec_len}
use Rattle.tickets.specs.Tickets.{IsFresh}
use Rattle.serving.proofs.serving.listen.Given as goal

-- each place so far has a seat that has drawn nothing and its node's ends, and so it is with the seats and the ends that are left
abbrev pub invariant-loop-number : goal.invariant-loop-number
invariant-loop-number g l =
    record {
      left : vec_len l.seats + l.number ≡ length l.fn.config.nodes;
      others : length l.all_ends.items + l.number ≡ length l.fn.config.nodes;
      count : vec_len l.places ≡ l.number;
      fresh : All (λ seat. IsFresh g.K.Deployment.table g.K.Deployment.seats seat) l.seats.items;
      placed : All (λ place. IsFresh g.K.Deployment.table g.K.Deployment.seats place.seat) l.places.items;
      ends : map (λ place. place.ends) l.places.items ++ l.all_ends.items ≡ l.fn.ends.items;
    }
