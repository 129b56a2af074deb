use Rattle.reply_meaning.proofs.Asks.{of_moves}
use Rattle.reply_meaning.proofs.law.an_ask_is_that_of_a_move.Goals as goal

pub returns : goal.returns
returns c = of_moves
