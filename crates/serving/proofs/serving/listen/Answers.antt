use Rattle.std.proofs.Common.{rules, ◌≡◌, ◌++◌, ◌∷◌, [], Some, sym}
use Rattle.std.proofs.lemmas.List.Elements.{All-pop, All-push, All-same}
use Rattle.tickets.specs.Tickets.{IsFresh}
use Rattle.tickets.specs.declared.seat.Seat.{Seat}
use Rattle.serving.proofs.PlaceLemmas.{one_more_place}
use Rattle.serving.proofs.serving.listen.Goals as goal

pub loop-number-preserved : goal.loop-number-preserved
loop-number-preserved g c =
    let is_fresh = λ (seat : Seat). IsFresh g.K.Deployment.table g.K.Deployment.seats seat in
    let popped : c.loop-number.seats.items ≡ c.pop.new.self.items ++ c.unwrap-seat.result ∷ [] = rw c.unwrap-seat.ensures at c.pop.ensures.items in
    let seats = All-pop is_fresh c.loop-number.seats.items c.pop.new.self.items (Some c.unwrap-seat.result) popped c.loop-number.invariant.fresh in
    let pushed : c.push.new.self.items ≡ c.loop-number.places.items ++ record { seat = c.unwrap-seat.result; ends = c.unwrap-ends.result; listener = c.in_ok-listener.listener } ∷ [] = rw (sym c.in_ok-map_err.ensures.variant) at c.push.ensures.items in
    let taken : c.loop-number.all_ends.items ≡ c.unwrap-ends.result ∷ c.pop_front-in-loop-number.new.self.items = rw c.unwrap-ends.ensures at c.pop_front-in-loop-number.ensures.items in
    record {
      left = search rules;
      others = search rules;
      count = search rules;
      fresh = seats.0;
      placed = All-same (λ place. IsFresh g.K.Deployment.table g.K.Deployment.seats place.seat) _ _ pushed
          (All-push (λ place. IsFresh g.K.Deployment.table g.K.Deployment.seats place.seat) c.loop-number.places.items _ c.loop-number.invariant.placed seats.1);
      ends = one_more_place (λ place. place.ends) c.loop-number.places.items _ _ _ _ _ pushed taken c.loop-number.invariant.ends;
    }
