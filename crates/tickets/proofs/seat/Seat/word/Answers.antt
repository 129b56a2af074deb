use Rattle.std.proofs.Common.{rules}
use Rattle.tickets.proofs.RuleSteps.{loads}
use Rattle.tickets.proofs.seat.Seat.word.Goals as goal

pub load-requires : goal.load-requires
load-requires c = (search rules, search rules, loads _ _ _ _)
