use Rattle.std.proofs.Common.{vec_len}
use Rattle.tickets.specs.Tickets.{id_of}
use Rattle.tickets.proofs.SeatLemmas.{IsGathered}
use Rattle.tickets.proofs.all_seats.close.Given as goal

abbrev pub invariant-loop-seat : goal.invariant-loop-seat
invariant-loop-seat l = IsGathered (vec_len l.fn.seats) (id_of l.table) l.fn.seats.items (vec_len l.seats) l.seats.items l.all

abbrev pub decreases-loop-seat : goal.decreases-loop-seat
decreases-loop-seat l = goal.left-loop-seat l
