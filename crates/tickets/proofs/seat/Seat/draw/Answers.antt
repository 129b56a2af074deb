use Rattle.std.proofs.Common.{rules, arith}
use Rattle.tickets.proofs.RuleSteps.{draws}
use Rattle.tickets.proofs.seat.Seat.draw.Goals as goal

pub fetch_add-number-requires : goal.fetch_add-number-requires
fetch_add-number-requires c = (search rules, search rules, draws _ _ _ _ (search rules) (omega arith))
