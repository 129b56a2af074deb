use Rattle.std.proofs.Common.{rules}
use Rattle.tickets.proofs.RuleSteps.{joins, loads}
use Rattle.tickets.proofs.SeatLemmas.{starts, takes_in}
use Rattle.tickets.proofs.all_seats.close.Goals as goal

pub loop-seat-init : goal.loop-seat-init
loop-seat-init c = starts _ _ _ _ _ _ _ c.into_token-all.ensures c.in_ok-pop.ensures.items c.in_ok-pop.ensures.cases c.requires.seated c.requires.whole

pub join_seat-requires : goal.join_seat-requires
join_seat-requires c =
    let gathered = c.loop-seat.invariant in
    (search rules, search rules, search rules, search rules, joins _ _ _ _ _ gathered.some_part)

pub loop-seat-preserved : goal.loop-seat-preserved
loop-seat-preserved c = takes_in _ _ _ _ _ _ _ _ _ _ _ c.into_token.ensures c.loop-seat.invariant c.in-Some.ensures.items c.in-Some.ensures.cases c.join_seat.ensures.0 c.join_seat.ensures.2

pub load-requires : goal.load-requires
load-requires c = (search rules, search rules, loads _ _ _ _)
