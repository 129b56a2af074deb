use Rattle.std.proofs.Common.{rules, arith, ◌≡◌, ◌<◌, ◌≤◌, ◌+◌, ◌∙◌, ℕ, true, List, length, take, get_or, sym, nat_lt}
use Rattle.std.proofs.lemmas.Bool.{lt-ltb}
use Rattle.std.proofs.lemmas.List.Sums.{sum_by_more, sum_by-take-le}
use Rattle.bus.specs.declared.message.Message.{Message}
use Rattle.links.specs.Pace.{brought_bytes, waiting_bytes}
use Rattle.links.proofs.pace.are_long.Goals as goal

-- where the next message brings more than is left of the room, all bring more than the room
past_room : (waiting : List Message) (place left room : ℕ) (message : Message) → place < length waiting
    → left + waiting_bytes (take place waiting) ≡ room → ¬ (brought_bytes (get_or waiting place message).body ≤ left)
    → true ≡ nat_lt room (waiting_bytes waiting)
past_room waiting place left room message below so_far past =
    let f : Message → ℕ = λ it. brought_bytes it.body in
    sym (lt-ltb room (waiting_bytes waiting) (omega (
      arith,
      so_far,
      past,
      sum_by_more f waiting place message below,
      sum_by-take-le f waiting (place + 1),
    )))

pub returns-in-None : goal.returns-in-None
returns-in-None g c =
    let is : c.message.result.now ≡ get_or c.args.waiting.now.items c.loop-place.place c.index.result.now =
    c.message.ensures.same ∙ search rules in
    past_room c.args.waiting.now.items c.loop-place.place c.loop-place.room _ c.index.result.now (search rules)
    c.loop-place.invariant (rw is at c.in-None.ensures)
