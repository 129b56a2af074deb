use Rattle.std.proofs.Common.{◌≡◌, [], ◌-◌, All, vec_len}
use Rattle.std.specs.Arc.{arc_value}
use Rattle.tickets.specs.Tickets.{IsFresh}
use Rattle.tickets.specs.Rule.{seat_view}
use Rattle.tickets.proofs.all_seats.deal.Given as goal

abbrev pub invariant-loop-made : goal.invariant-loop-made
invariant-loop-made l = record {
  counted : vec_len l.seats ≡ l._made;
  fresh : All (IsFresh (arc_value l.raw).shared.table_id l.fn.n) l.seats.items;
  seated : l.first.table_id ≡ (arc_value l.raw).shared.table_id;
  dealt : l.first.me ≡ (seat_view (l.fn.n - l._made) l.fn.n [], []);
}
