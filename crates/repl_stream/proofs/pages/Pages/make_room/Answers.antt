use Rattle.std.proofs.Common.{arith}
use Rattle.repl_stream.proofs.TurnLemmas.{turned}
use Rattle.repl_stream.proofs.pages.Pages.make_room.Goals as goal

pub returns-clause-keeps : goal.returns-clause-keeps
returns-clause-keeps c = λ kept few keeps.
    let turn = c.turn.ensures in
    (turned c.args.self.now c.turn.new.self kept keeps few (omega arith) turn.full turn.empty turn.block turn.len).0

pub returns-clause-bytes : goal.returns-clause-bytes
returns-clause-bytes c = λ kept few keeps.
    let turn = c.turn.ensures in
    (turned c.args.self.now c.turn.new.self kept keeps few (omega arith) turn.full turn.empty turn.block turn.len).1
